-- Meaning: what waits in a channel.
use Rattle.std.specs.Prelude.{ℕ, ◌+◌, ◌*◌, cond, ◌&&◌, List, [], ◌∷◌, Some, None, Option, map, nat_lt, slice_index_or}
use Rattle.events.specs.declared.message.Message.{Message}
use Rattle.queue.specs.Ring.{held}
use Rattle.channels.specs.declared.channel.Channel.{Channel}
use Rattle.channels.specs.declared.channels.Channels.{Channels}

-- what waits in one channel, the oldest first
abbrev pub waiting : Channel → List Message
waiting c = held c.slots c.place.first c.place.count

-- what waits from role a to role b, the oldest first; nothing where a or b is above 5
unfoldable pub channel : Channels → ℕ → ℕ → List Message
channel c a b = cond (nat_lt a 6 && nat_lt b 6) (slice_index_or (map waiting c.channels) (6 * a + b) []) []

-- the oldest, if any waits
abbrev pub first : List Message → Option Message
first [] = None
first (m ∷ ms) = Some m
