use Rattle.std.proofs.Common.{◌∙◌, rules, tests}
use Rattle.std.proofs.lemmas.Iterator.{YieldsList-from_slice}
use Rattle.std.proofs.lemmas.Iterator.Search.{position_from_yields_List}
use lib.Dec.{eqb}
use Rattle.parting.proofs.Entering.{position_by}
use Rattle.parting.proofs.tables.position.Goals as goal

pub returns : goal.returns
returns c =
    c.unwrap_or.ensures
    ∙ position_by c.args.set c.args.found.now c.position.result
    (position_from_yields_List (λ x. eqb x c.args.set) _ _ _ c.position.ensures.ran (YieldsList-from_slice c.args.found.now cc) (λ x b q k. search (rules, tests)))
