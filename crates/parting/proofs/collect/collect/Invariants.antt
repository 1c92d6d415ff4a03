use Rattle.std.proofs.Common.{◌≤◌, List, length}
use Rattle.parting.specs.Calls.{GivesListed}
use Rattle.parting.proofs.Collecting.{Collecting}
use Rattle.parting.proofs.collect.collect.Given as goal

abbrev pub invariant-loop-x : goal.invariant-loop-x
invariant-loop-x g l =
    (length l.found.items ≤ l.x-index) × ((h : _ → List _) → GivesListed (goal.F-post g l.give) h → Collecting h l.from l.found.items l.x-index)
