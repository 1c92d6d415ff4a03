-- Meaning: an input laid out of a sheet, a book, an opening tick and events.
use Rattle.std.specs.Prelude.{◌≡◌, ℕ, ◌^◌, ◌<◌, ◌≤◌, List, ◌++◌, length}
use Rattle.std.specs.List.{flat_map, AllByRecursion}
use Rattle.events.specs.declared.event.Event.{Event}
use Rattle.input.specs.Bytes.{sized, four, event_bytes, Ranged}

-- the length of the sheet and the sheet, the same of the book, the opening tick, the events one after another
abbrev pub input_bytes : List ℕ → List ℕ → ℕ → List Event → List ℕ
input_bytes sheet book tick events = sized sheet ++ (sized book ++ (four tick ++ flat_map event_bytes events))

-- the input is these parts, every number fits its bytes, and there are not too many bytes
pub record Laid (input sheet book : List ℕ) (tick : ℕ) (events : List Event) : Type 0 where
  pub bytes_are : input_bytes sheet book tick events ≡ input
  pub sheet_fits : length sheet < 2 ^ 16
  pub book_fits : length book < 2 ^ 16
  pub tick_fits : tick < 2 ^ 32
  pub events_fit : AllByRecursion Ranged events
  pub most : length input ≤ 65536

-- it is laid out of no parts
abbrev pub Broken : List ℕ → Type 0
Broken input = (sheet book : List ℕ) (tick : ℕ) (events : List Event) → Laid input sheet book tick events → ⊥
