use Rattle.std.proofs.Common.{◌-◌, ◌^◌}
use Rattle.parting.proofs.Passing.{Passing}
use Rattle.parting.proofs.edges.Edges.closure.Given as goal

abbrev pub invariant-loop-reached : goal.invariant-loop-reached
invariant-loop-reached l = Passing l.self l.start l.reached

abbrev pub decreases-loop-reached : goal.decreases-loop-reached
decreases-loop-reached l = 2 ^ 64 - l.reached
