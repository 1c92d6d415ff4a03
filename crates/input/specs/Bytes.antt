-- Meaning: how numbers, events and the parts of an input stand in bytes, the high byte first.
use Rattle.std.specs.Prelude.{ℕ, ◌/◌, ◌%◌, ◌^◌, ◌<◌, List, [], ◌∷◌, ◌++◌, length}
use Rattle.events.specs.declared.event.Event.{Event}

-- a number of 16 bits
abbrev pub two : ℕ → List ℕ
two n = (n / 256) ∷ (n % 256) ∷ []

-- a number of 32 bits: its high half and its low half
abbrev pub four : ℕ → List ℕ
four n = two (n / 65536) ++ two (n % 65536)

-- bytes after their length
abbrev pub sized : List ℕ → List ℕ
sized bytes = two (length bytes) ++ bytes

-- an event is eight bytes
abbrev pub event_bytes : Event → List ℕ
event_bytes e = e.role ∷ e.direction ∷ e.partner ∷ e.label ∷ four e.tick

-- its numbers fit their bytes
pub record Ranged (e : Event) : Type 0 where
  pub role : e.role < 256
  pub direction : e.direction < 256
  pub partner : e.partner < 256
  pub label : e.label < 256
  pub tick : e.tick < 2 ^ 32
