use Rattle.std.proofs.Common.{◌≡◌, drop}
use Rattle.parting.specs.Spread.{passed}
use Rattle.parting.proofs.edges.Edges.pass.Given as goal

abbrev pub invariant-loop-edge : goal.invariant-loop-edge
invariant-loop-edge l = passed l.reached (drop l.edge-index l.edge-items) ≡ passed l.mask l.edge-items
