-- Computed: the events that bytes encode, eight bytes an event. That this is the inverse of the encoding is a part of what `split` promises.
use Rattle.std.specs.Prelude.{ℕ, ◌+◌, ◌*◌, List, [], ◌∷◌}
use Rattle.events.specs.declared.event.Event.{Event}

abbrev pub tick_of : ℕ → ℕ → ℕ → ℕ → ℕ
tick_of a b c d = a * 16777216 + b * 65536 + c * 256 + d

abbrev pub events_in : List ℕ → List Event
events_in [] = []
events_in (r ∷ []) = []
events_in (r ∷ s ∷ []) = []
events_in (r ∷ s ∷ p ∷ []) = []
events_in (r ∷ s ∷ p ∷ l ∷ []) = []
events_in (r ∷ s ∷ p ∷ l ∷ a ∷ []) = []
events_in (r ∷ s ∷ p ∷ l ∷ a ∷ b ∷ []) = []
events_in (r ∷ s ∷ p ∷ l ∷ a ∷ b ∷ c ∷ []) = []
events_in (r ∷ s ∷ p ∷ l ∷ a ∷ b ∷ c ∷ d ∷ rest) = record { role = r; direction = s; partner = p; label = l; tick = tick_of a b c d } ∷ events_in rest
