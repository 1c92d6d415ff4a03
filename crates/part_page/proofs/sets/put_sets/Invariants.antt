use Rattle.std.proofs.Common.{◌≡◌, ◌++◌, drop}
use Rattle.sheet_page.specs.Page.{numbered}
use Rattle.sheet_page.specs.Telling.{told, Stays}
use Rattle.part_page.specs.Parts.{set_lines}
use Rattle.text.specs.Growing.{said}
use Rattle.part_page.proofs.sets.put_sets.Given as goal

abbrev pub invariant-loop-number : goal.invariant-loop-number
invariant-loop-number l =
    Stays l.initial.page l.page
    × (said l.page.text.now ++ numbered (set_lines (told l.initial.page)) l.number (drop l.number l.sets)
    ≡ said l.initial.page.text.now ++ numbered (set_lines (told l.initial.page)) 0 l.sets)
