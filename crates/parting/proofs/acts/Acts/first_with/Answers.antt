use Rattle.std.proofs.Common.{eqb, ap, ◌∙◌, rules, tests}
use Rattle.std.proofs.lemmas.Iterator.{YieldsList-from_slice}
use Rattle.std.proofs.lemmas.Iterator.Search.{find_from_yields_List}
use Rattle.parting.specs.declared.act.Act.{Act}
use Rattle.parting.specs.Judge.{first_with}
use Rattle.parting.proofs.acts.Acts.first_with.Goals as goal

pub returns : goal.returns
returns c =
    let label = c.args.label in
    c.copied.ensures
    ∙ find_from_yields_List (λ (a : Act). eqb a.label label) _ _ c.find.result c.find.ensures.ran (YieldsList-from_slice c.as_slice.result.now cc) (λ x b q k. search (rules, tests))
    ∙ ap (first_with label) (c.as_slice.ensures.value ∙ c.self.view_is)
