use Rattle.std.proofs.Common.{◌≡◌, [], ◌∷◌, map, sym, ap, subst, ◌∙◌, rules}
use Rattle.std.proofs.lemmas.List.Concat.{flat_map_single}
use Rattle.std.proofs.lemmas.List.Folds.{flat_map-map}
use Rattle.parting.specs.Bounds.{SmallEdges}
use Rattle.parting.specs.View.{place_of, back_edge}
use Rattle.parting.proofs.Bounding.{small_back}
use Rattle.parting.proofs.edges.Edges.back.Goals as goal

made : (c : goal.After-collect) → c.collect.result.items ≡ map back_edge c.args.transitions.now
made c =
    let ts = c.as_slice.result.now in
    c.collect.ensures (λ t. back_edge (place_of t) ∷ []) (λ x y k. search rules) ∙ sym (flat_map-map (λ p. back_edge p ∷ []) place_of ts) ∙ flat_map_single back_edge (map place_of ts)
    ∙ ap (map back_edge) c.as_slice.ensures.places

pub invariant_of-result : goal.invariant_of-result
invariant_of-result c = subst SmallEdges (sym (made c)) (small_back c.args.transitions.now c.as_slice.ensures.small)

pub returns : goal.returns
returns c = made c
