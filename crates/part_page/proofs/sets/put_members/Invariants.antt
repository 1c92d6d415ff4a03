use Rattle.std.proofs.Common.{◌≡◌, ◌-◌, ◌++◌}
use Rattle.part_page.specs.Parts.{states_from}
use Rattle.text.specs.Growing.{said}
use Rattle.part_page.proofs.sets.put_members.Given as goal

abbrev pub invariant-loop-state : goal.invariant-loop-state
invariant-loop-state l =
    said l.text ++ states_from l.set.states l.state-counter (64 - l.state-counter)
    ≡ said l.initial.text ++ states_from l.set.states 0 64
