use Rattle.std.proofs.Common.{◌≡◌, ◌+◌, ◌*◌, ◌^◌, ◌<◌, length}
use Rattle.sheet.specs.Decode.{branches}
use Rattle.sheet.specs.Refuse.{branches_fault}
use Rattle.reading.specs.Branching.{branches_left}
use Rattle.reading.proofs.states.check_branches.Given as goal

abbrev pub invariant-loop-branch : goal.invariant-loop-branch
invariant-loop-branch l =
    (branches_fault l.counts l.at l.low (branches_left l.branch-iterator) ≡ branches_fault l.counts l.fn.branches.offset 0 (branches l.fn.branches.bytes.now))
    × (l.at + 5 * length (branches_left l.branch-iterator) + 5 < 2 ^ 64)
