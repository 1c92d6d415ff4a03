use Rattle.std.proofs.Common.{◌≡◌, ◌++◌, drop}
use Rattle.sheet_page.specs.Lines.{name_line}
use Rattle.sheet_page.specs.Page.{numbered}
use Rattle.sheet_page.specs.Pieces.{pieces_of}
use Rattle.sheet_page.specs.Telling.{told, Stays}
use Rattle.text.specs.Growing.{said}
use Rattle.sheet_page.proofs.page.Page.put_names.Given as goal

abbrev pub invariant-loop-number : goal.invariant-loop-number
invariant-loop-number l =
    Stays l.initial.self l.self
    × (said l.self.text.now ++ numbered (name_line l.heading) l.number (drop l.number (pieces_of (told l.initial.self) l.kind))
    ≡ said l.initial.self.text.now ++ numbered (name_line l.heading) 0 (pieces_of (told l.initial.self) l.kind))
