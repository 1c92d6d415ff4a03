use Rattle.std.proofs.Common.{◌≡◌, ◌++◌, drop}
use Rattle.sheet_page.specs.Page.{numbered, state_lines}
use Rattle.sheet_page.specs.Telling.{told, Stays}
use Rattle.text.specs.Growing.{said}
use Rattle.sheet_page.proofs.page.Page.put_states.Given as goal

abbrev pub invariant-loop-number : goal.invariant-loop-number
invariant-loop-number l =
    Stays l.initial.self l.self
    × (said l.self.text.now ++ numbered (state_lines (told l.initial.self)) l.number (drop l.number (told l.initial.self).states)
    ≡ said l.initial.self.text.now ++ numbered (state_lines (told l.initial.self)) 0 (told l.initial.self).states)
