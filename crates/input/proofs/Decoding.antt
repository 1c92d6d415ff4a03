-- The events in bytes.
use Rattle.std.proofs.Common.{◌≡◌, ℕ, ◌%◌, ◌<◌, List, [], ◌∷◌, ◌++◌, length, refl, ap, ◌∙◌, arith}
use Rattle.std.specs.List.{flat_map, AllByRecursion}
use Rattle.events.specs.declared.event.Event.{Event}
use Rattle.input.specs.Bytes.{event_bytes, Ranged}
use Rattle.input.specs.Events.{tick_of, events_in}
use Rattle.input.proofs.Halves.{four_back, four_is}

-- an event's bytes are read back
pub event_next : (e : Event) (rest : List ℕ) → events_in (event_bytes e ++ rest) ≡ e ∷ events_in rest
event_next e rest = ap (λ t. record { role = e.role; direction = e.direction; partner = e.partner; label = e.label; tick = t } ∷ events_in rest) (four_back e.tick)

pub events_back : (es : List Event) → events_in (flat_map event_bytes es) ≡ es
events_back [] = refl
events_back (e ∷ es) = event_next e (flat_map event_bytes es) ∙ ap (λ t. e ∷ t) (events_back es)

pub events_whole : (es : List Event) → length (flat_map event_bytes es) % 8 ≡ 0
events_whole [] = refl
events_whole (e ∷ es) = let h = events_whole es in omega arith

module _ (r s p l a b c d : ℕ) (ranges : AllByRecursion (λ x. x < 256) (r ∷ s ∷ p ∷ l ∷ a ∷ b ∷ c ∷ d ∷ [])) where
  abbrev pub first : Event
  first = record { role = r; direction = s; partner = p; label = l; tick = tick_of a b c d }

  pub first_ranged : Ranged first
  first_ranged = record {
    role = ranges.0;
    direction = ranges.1.0;
    partner = ranges.1.1.0;
    label = ranges.1.1.1.0;
    tick = omega (arith, ranges.1.1.1.1.0, ranges.1.1.1.1.1.0, ranges.1.1.1.1.1.1.0, ranges.1.1.1.1.1.1.1.0);
  }

  pub first_bytes : event_bytes first ≡ r ∷ s ∷ p ∷ l ∷ a ∷ b ∷ c ∷ d ∷ []
  first_bytes = ap (λ w. r ∷ s ∷ p ∷ l ∷ w) (four_is a b c d (tick_of a b c d) ranges.1.1.1.1.0 ranges.1.1.1.1.1.0 ranges.1.1.1.1.1.1.0 ranges.1.1.1.1.1.1.1.0 refl)

-- whole events are the encoding of what is read from them
pub events_are : (bytes : List ℕ) → AllByRecursion (λ x. x < 256) bytes → length bytes % 8 ≡ 0 → AllByRecursion Ranged (events_in bytes) × (flat_map event_bytes (events_in bytes) ≡ bytes)
events_are [] h w = (tt, refl)
events_are (r ∷ []) h w = absurd (omega arith)
events_are (r ∷ s ∷ []) h w = absurd (omega arith)
events_are (r ∷ s ∷ p ∷ []) h w = absurd (omega arith)
events_are (r ∷ s ∷ p ∷ l ∷ []) h w = absurd (omega arith)
events_are (r ∷ s ∷ p ∷ l ∷ a ∷ []) h w = absurd (omega arith)
events_are (r ∷ s ∷ p ∷ l ∷ a ∷ b ∷ []) h w = absurd (omega arith)
events_are (r ∷ s ∷ p ∷ l ∷ a ∷ b ∷ c ∷ []) h w = absurd (omega arith)
events_are (r ∷ s ∷ p ∷ l ∷ a ∷ b ∷ c ∷ d ∷ rest) h w =
    let front : AllByRecursion (λ x. x < 256) (r ∷ s ∷ p ∷ l ∷ a ∷ b ∷ c ∷ d ∷ []) = (h.0, (h.1.0, (h.1.1.0, (h.1.1.1.0, (h.1.1.1.1.0, (h.1.1.1.1.1.0, (h.1.1.1.1.1.1.0, (h.1.1.1.1.1.1.1.0, tt)))))))) in
    let shorter : length rest % 8 ≡ 0 = omega arith in
    let more = events_are rest h.1.1.1.1.1.1.1.1 shorter in
    ((first_ranged r s p l a b c d front, more.0), ap (λ w. w ++ flat_map event_bytes (events_in rest)) (first_bytes r s p l a b c d front) ∙ ap (λ w. r ∷ s ∷ p ∷ l ∷ a ∷ b ∷ c ∷ d ∷ w) more.1)
