use Rattle.std.proofs.Common.{◌≡◌, ◌<◌, ◌++◌, map, length, get_or, sym, ap, ◌∙◌, subst, arith}
use Rattle.sheet.specs.Decode.{state_of}
use Rattle.sheet.specs.Model.{ended}
use Rattle.sheet.proofs.Bodies.{state_of_body}
use Rattle.reading.specs.Reads.{sheet_of}
use Rattle.parting.specs.Bounds.{SmallPlaces}
use Rattle.parting.specs.View.{place_of, places_of, places}
use Rattle.parting.proofs.Bounding.{small_places_lem}
use Rattle.parting.proofs.Decoding.{decoded_more, decoded_all, few_places, sheet_valid}
use Rattle.parting.proofs.graph.decode.Goals as goal

pub decode_state-requires : goal.decode_state-requires
decode_state-requires c =
    let sh = sheet_of c.args.sheet.now in
    let s = c.loop-state.state in
    let n = ap (λ k. k.states) c.counts-state-end.ensures.value in
    let under : s < length sh.states = omega (arith, n) in
    let is : state_of c.state_body.result.now ≡ get_or sh.states s ended = ap state_of c.state_body.ensures ∙ state_of_body (get_or sh.states s ended) in
    let few = few_places sh (sheet_valid c.args.sheet.now) s s under in
    let e = ap (λ x. length (places_of s x)) is in
    omega (arith, few, e, c.loop-state.invariant.bound, (sheet_valid c.args.sheet.now).state_count.1)

pub loop-state-preserved : goal.loop-state-preserved
loop-state-preserved c =
    let sh = sheet_of c.args.sheet.now in
    let s = c.loop-state.state in
    let n = ap (λ k. k.states) c.counts-state-end.ensures.value in
    let under : s < length sh.states = omega (arith, n) in
    let is : state_of c.state_body.result.now ≡ get_or sh.states s ended = ap state_of c.state_body.ensures ∙ state_of_body (get_or sh.states s ended) in
    decoded_more sh.states c.loop-state.transitions.items c.decode_state.new.transitions.items s under (few_places sh (sheet_valid c.args.sheet.now) s s under)
    (c.decode_state.ensures ∙ ap (λ x. map place_of c.loop-state.transitions.items ++ places_of s x) is)
    c.loop-state.invariant

made : (c : goal.After-loop-state) → map place_of c.loop-state.transitions.items ≡ places (sheet_of c.args.sheet.now)
made c =
    let n = ap (λ k. k.states) c.counts-state-end.ensures.value in
    decoded_all (sheet_of c.args.sheet.now).states c.loop-state.transitions.items c.loop-state.state (omega (arith, n)) c.loop-state.invariant

pub invariant_of-result : goal.invariant_of-result
invariant_of-result c = subst SmallPlaces (sym (made c)) (small_places_lem (sheet_of c.args.sheet.now) (sheet_valid c.args.sheet.now))
