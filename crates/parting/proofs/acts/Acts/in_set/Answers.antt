use Rattle.std.proofs.Common.{◌≡◌, sym, subst, ap, ◌∙◌, rules, tests}
use Rattle.std.specs.Bool.{then_some}
use Rattle.std.proofs.lemmas.List.Elements.{All-filter}
use Rattle.parting.specs.declared.act.Act.{Act}
use Rattle.parting.specs.Bounds.{SmallAct, SmallActs}
use Rattle.parting.specs.Judge.{in_set}
use Rattle.parting.specs.Lists.{listed}
use Rattle.parting.specs.Masks.{has}
use Rattle.parting.proofs.Collecting.{kept, joined_kept, listed_then_some}
use Rattle.parting.proofs.acts.Acts.in_set.Goals as goal

made : (c : goal.After-collect) → c.collect.result.items ≡ in_set c.args.states c.self.inside.list.items
made c =
    let test = λ (a : Act). has c.args.states a.state in
    c.collect.ensures (kept test) (λ x y k. let q : y ≡ then_some (has c.args.states x.state) x = search (rules, tests) in ap listed q ∙ listed_then_some (has c.args.states x.state) x)
    ∙ joined_kept test c.as_slice.result.now
    ∙ ap (in_set c.args.states) c.as_slice.ensures.value

pub invariant_of-result : goal.invariant_of-result
invariant_of-result c = subst SmallActs (sym (made c)) (All-filter (λ (a : Act). has c.args.states a.state) SmallAct _ c.self.invariant)

pub returns : goal.returns
returns c = made c ∙ ap (in_set c.args.states) c.self.view_is
