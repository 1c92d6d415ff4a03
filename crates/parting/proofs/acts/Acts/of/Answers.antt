use Rattle.std.proofs.Common.{◌≡◌, sym, ap, subst, ◌∙◌, rules}
use Rattle.std.specs.List.{flat_map}
use Rattle.std.proofs.lemmas.List.Folds.{flat_map-map}
use Rattle.parting.specs.Bounds.{SmallActs}
use Rattle.parting.specs.View.{place_of, acts_at, acts}
use Rattle.parting.proofs.Bounding.{small_acts_lem}
use Rattle.parting.proofs.acts.Acts.of.Goals as goal

made : (c : goal.After-collect) → c.collect.result.items ≡ acts c.args.role c.args.transitions.now
made c =
    let f = acts_at c.args.role in
    c.collect.ensures (λ t. f (place_of t)) (λ x y k. search rules) ∙ sym (flat_map-map f place_of c.as_slice.result.now) ∙ ap (flat_map f) c.as_slice.ensures.places

pub invariant_of-result : goal.invariant_of-result
invariant_of-result c = subst SmallActs (sym (made c)) (small_acts_lem c.args.role c.args.transitions.now c.as_slice.ensures.small)

pub returns : goal.returns
returns c = made c
