-- Meaning: what an input is split into.
use Rattle.std.specs.Prelude.{◌≡◌, ℕ, List}
use Rattle.events.specs.declared.event.Event.{Event}
use Rattle.input.specs.declared.script.Script.{Script}
use Rattle.input.specs.Events.{events_in}
use Rattle.input.specs.Laid.{Laid}

-- the input is laid out of these parts, and of no others
pub record Splits (input : List ℕ) (s : Script) : Type 0 where
  pub laid : Laid input s.sheet.now s.book.now s.tick (events_in s.events.now)
  pub only : (sheet book : List ℕ) (tick : ℕ) (events : List Event) → Laid input sheet book tick events →
      (sheet ≡ s.sheet.now) × (book ≡ s.book.now) × (tick ≡ s.tick) × (events ≡ events_in s.events.now)
