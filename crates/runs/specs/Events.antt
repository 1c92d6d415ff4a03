-- Meaning: what a list of events says of each role and of each channel.
use Rattle.std.specs.Prelude.{ℕ, cond, ◌&&◌, List, [], ◌∷◌, ◌++◌, map, ◌==◌}
pub use Rattle.events.specs.declared.event.Event.{Event}
use Rattle.protocol.specs.Actions.{Way, sends, receives}

-- direction 0 sends, 1 takes
abbrev pub direction_of : Way → ℕ
direction_of sends = 0
direction_of receives = 1

-- the event alone if it is role m's, else nothing
unfoldable pub mine : ℕ → Event → List Event
mine m e = cond (m == e.role) (e ∷ []) []

-- role m's events, in order
abbrev pub own : ℕ → List Event → List Event
own m [] = []
own m (e ∷ es) = mine m e ++ own m es

-- the event alone if it goes that way with that partner, else nothing
unfoldable pub along : Way → ℕ → Event → List Event
along w k e = cond (direction_of w == e.direction && k == e.partner) (e ∷ []) []

abbrev pub exchanged : Way → ℕ → List Event → List Event
exchanged w k [] = []
exchanged w k (e ∷ es) = along w k e ++ exchanged w k es

-- the events by which role a sends to role b, in order
abbrev pub sent : ℕ → ℕ → List Event → List Event
sent a b es = exchanged sends b (own a es)

-- the events by which role b takes what role a sent, in order
abbrev pub taken : ℕ → ℕ → List Event → List Event
taken a b es = exchanged receives a (own b es)

abbrev pub label_of : Event → ℕ
label_of e = e.label

abbrev pub labels : List Event → List ℕ
labels es = map label_of es
