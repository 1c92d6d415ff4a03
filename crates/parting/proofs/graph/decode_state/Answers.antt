use Rattle.std.proofs.Common.{map, length, ap, arith}
use Rattle.std.proofs.lemmas.List.{length-map}
use Rattle.sheet.specs.Decode.{branches}
use Rattle.reading.specs.Branching.{branches_left}
use Rattle.parting.specs.View.{make_place, place_of, places_of}
use Rattle.parting.proofs.Decoding.{decoding_room}
use Rattle.parting.proofs.graph.decode_state.Goals as goal

pub push-requires : goal.push-requires
push-requires c =
    let l = c.loop-branch in
    let s = c.args.state in
    let x = c.in-Some.exchange in
    let before = c.args.transitions.now.items in
    let e = ap (λ y. length (places_of s y)) c.in-Some.ensures.0 in (
      omega arith,
      decoding_room (make_place s x.sender x.receiver) (map place_of before) (branches x.branches.now) (branches_left l.branch-iterator) (branches_left c.next.new.self) c.in-Some-branch.branch
          l.transitions.items c.in-Some-branch.ensures.steps l.invariant (omega (arith, c.requires, e, length-map before place_of)),
    )
