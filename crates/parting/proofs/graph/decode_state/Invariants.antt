use Rattle.std.proofs.Common.{map}
use Rattle.sheet.specs.Decode.{branches}
use Rattle.reading.specs.Branching.{branches_left}
use Rattle.parting.specs.View.{make_place, place_of}
use Rattle.parting.proofs.Decoding.{Decoding}
use Rattle.parting.proofs.graph.decode_state.Given as goal

abbrev pub invariant-loop-branch : goal.invariant-loop-branch
invariant-loop-branch l =
    Decoding (make_place l.state l.exchange.sender l.exchange.receiver) (map place_of l.initial.transitions.items)
    (branches l.exchange.branches.now) (branches_left l.branch-iterator) l.transitions.items
