-- Computed: what a pass does to the channels.
use Rattle.std.specs.Prelude.{◌≡◌, ℕ, ◌-◌, ◌<◌, List, ◌∷◌, length}
use Rattle.channels.specs.declared.channels.Channels.{Channels}
use Rattle.channels.specs.Waiting.{channel}
use Rattle.events.specs.declared.event.Event.{Event}
use Rattle.events.specs.declared.message.Message.{Message}
use Rattle.protocol.specs.Actions.{Way, sends, receives}
use Rattle.runs.specs.Monitor.{channel_after}
use Rattle.session.specs.declared.step.Direction.{Direction}
use Rattle.session.specs.declared.step.Direction.TheVariants.{Sends, Takes}

abbrev pub way_of : Direction → Way
way_of Sends = sends
way_of Takes = receives

-- Where there is a slot, a sending's message stands last, and as many wait as are answered. A taking's is gone, and what
-- is answered are the ticks for which it was under way.
abbrev pub Delivered : Direction → Channels → Event → Channels → ℕ → Type 0
Delivered Sends old e new r =
    e.role < 6 → e.partner < 6 → length (channel old e.role e.partner) < 8 →
    ((a b : ℕ) → channel new a b ≡ channel_after (channel old) e sends a b) × (r ≡ length (channel new e.role e.partner))
Delivered Takes old e new r =
    ((a b : ℕ) → channel new a b ≡ channel_after (channel old) e receives a b) ×
    ((x : Message) (rest : List Message) → channel old e.partner e.role ≡ x ∷ rest → r ≡ e.tick - x.tick)
