use Rattle.std.proofs.Common.{◌≡◌, ◌++◌}
use Rattle.std.specs.List.{flat_map}
use Rattle.sheet.specs.Decode.{branches}
use Rattle.reading.specs.Branching.{branches_left}
use Rattle.sheet_page.specs.Lines.{branch_line}
use Rattle.sheet_page.specs.Telling.{told, Stays}
use Rattle.text.specs.Growing.{said}
use Rattle.sheet_page.proofs.page.Page.put_branches.Given as goal

abbrev pub invariant-loop-branch : goal.invariant-loop-branch
invariant-loop-branch l =
    Stays l.initial.self l.self
    × (said l.self.text.now ++ flat_map (branch_line (told l.initial.self)) (branches_left l.branch-iterator)
    ≡ said l.initial.self.text.now ++ flat_map (branch_line (told l.initial.self)) (branches l.bytes))
