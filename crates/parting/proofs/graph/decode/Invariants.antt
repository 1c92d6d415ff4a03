use Rattle.reading.specs.Reads.{sheet_of}
use Rattle.parting.proofs.Decoding.{Decoded}
use Rattle.parting.proofs.graph.decode.Given as goal

abbrev pub invariant-loop-state : goal.invariant-loop-state
invariant-loop-state l = Decoded (sheet_of l.sheet).states l.transitions.items l.state
