use Rattle.std.proofs.Common.{◌≡◌, ◌++◌, drop}
use Rattle.sheet_page.specs.Page.{numbered}
use Rattle.sheet_page.specs.Telling.{told, Stays}
use Rattle.part_page.specs.Parts.{move_lines}
use Rattle.text.specs.Growing.{said}
use Rattle.part_page.proofs.moves.put_moves.Given as goal

abbrev pub invariant-loop-label : goal.invariant-loop-label
invariant-loop-label l =
    Stays l.initial.page l.page
    × (said l.page.text.now ++ numbered (move_lines (told l.initial.page)) l.label (drop l.label l.moves)
    ≡ said l.initial.page.text.now ++ numbered (move_lines (told l.initial.page)) 0 l.moves)
