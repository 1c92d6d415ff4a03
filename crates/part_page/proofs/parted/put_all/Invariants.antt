use Rattle.std.proofs.Common.{◌≡◌, ◌++◌, drop}
use Rattle.sheet_page.specs.Page.{numbered}
use Rattle.sheet_page.specs.Telling.{told, Stays}
use Rattle.part_page.specs.Parts.{part_text}
use Rattle.text.specs.Growing.{said}
use Rattle.part_page.proofs.parted.put_all.Given as goal

abbrev pub invariant-loop-role : goal.invariant-loop-role
invariant-loop-role l =
    Stays l.initial.page l.page
    × (said l.page.text.now ++ numbered (part_text (told l.initial.page)) l.role (drop l.role l.part-items)
    ≡ said l.initial.page.text.now ++ numbered (part_text (told l.initial.page)) 0 l.part-items)
