-- Meaning: what waits in each channel, as a function of the events.
use Rattle.std.specs.Prelude.{ℕ, ◌-◌, List, [], ◌∷◌, map, length, drop}
use Rattle.events.specs.declared.event.Event.{Event}
pub use Rattle.events.specs.declared.message.Message.{Message}
use Rattle.runs.specs.Events.{sent, taken}

abbrev pub message : Event → Message
message e = record { label = e.label; tick = e.tick }

-- what role a sent to role b and b has not yet taken, the oldest first
unfoldable pub waiting : ℕ → ℕ → List Event → List Message
waiting a b es = drop (length (taken a b es)) (map message (sent a b es))

-- the tick at which the oldest was sent
abbrev pub oldest_tick : List Message → ℕ
oldest_tick [] = 0
oldest_tick (x ∷ xs) = x.tick

-- for how many ticks the message that e takes has been under way, after those events
abbrev pub under_way : List Event → Event → ℕ
under_way es e = e.tick - oldest_tick (waiting e.partner e.role es)
