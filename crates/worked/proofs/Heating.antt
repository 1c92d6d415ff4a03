-- The oven's session: what its second and its sixth event meet.
use Rattle.std.proofs.Common.{◌≡◌, ℕ, ◌⊎◌, [], ◌∷◌, sym, refl, ap, subst, inl, inr, arith}
use mathlib.Core.List.{Memᴰ}
use Rattle.protocol.specs.Places.{Place, Has}
use Rattle.protocol.specs.Actions.{Action, sending, receiving, turn}
use Rattle.protocol.specs.Sets.{here, Acts, Start, Led}
use Rattle.protocol.proofs.Listed.{places, listed_from_has, place_at}
use Rattle.runs.specs.Events.{mine, along}
use Rattle.runs.specs.Examples.{branch, event, oven, windows}
use Rattle.runs.specs.Waiting.{waiting}
use Rattle.runs.proofs.Worked.{oven_examples}
use Rattle.events.specs.declared.fault.SessionFault.TheVariants.{Line, Time}
use Rattle.session.specs.Outcomes.{GoesOn, HasTurn, Waits, InRow}
use Rattle.worked.specs.Worked.{Stops, asked, answered}

abbrev heat_place : Place
heat_place = place_at 0 0 1 (branch 0 1 255 0 3)

abbrev hot_place : Place
hot_place = place_at 1 1 0 (branch 1 2 1 255 0)

abbrev fault_place : Place
fault_place = place_at 1 1 0 (branch 2 2 255 255 0)

heat_stands : Has oven heat_place
heat_stands = record { branches = branch 0 1 255 0 3 ∷ []; stands = refl; among = Memᴰ.head refl }

fault_stands : Has oven fault_place
fault_stands = record { branches = branch 1 2 1 255 0 ∷ branch 2 2 255 255 0 ∷ []; stands = refl; among = Memᴰ.tail (Memᴰ.head refl) }

-- OVEN's one action with HEAT is to take it in row 0
takes_heat : (s : ℕ) (a : Action) → Acts oven 1 s a → 0 ≡ a.label → a.timing.row ≡ 0
unfolding turn
takes_heat s a i l = go i.1.place i.1.acts (listed_from_has oven i.1.place i.1.has)
  where
    other : (b : Action) → b ≡ a → b.label ≡ 0 → a.timing.row ≡ b.timing.row
    other b q z = sym (ap (λ (x : Action). x.timing.row) q)

    go : (p : Place) → turn 1 p ≡ a ∷ [] → Memᴰ p (places oven) → a.timing.row ≡ 0
    go p t (Memᴰ.head q) = other (receiving heat_place) (cc (ap (turn 1) q)) refl
    go p t (Memᴰ.tail (Memᴰ.head q)) = absurd (cc (ap (turn 1) q))
    go p t (Memᴰ.tail (Memᴰ.tail (Memᴰ.head q))) = absurd (cc (ap (turn 1) q))
    go p t (Memᴰ.tail (Memᴰ.tail (Memᴰ.tail i))) = elim i [ ]

second_turn : HasTurn oven asked (event 1 1 0 0 106)
unfolding mine turn
second_turn = record {
  action = receiving heat_place;
  able = record { state = 0; inside = here refl; acts = (1, record { place = heat_place; has = heat_stands; at = refl; acts = refl; leads = refl }) };
  fits = record { direction = refl; partner = refl; label = refl };
}

second_waits : Waits asked (event 1 1 0 0 106)
unfolding mine along waiting
second_waits q = (_, _, refl, refl)

-- OVEN's clock counts from the opening, and is at 6
second_late : InRow oven windows 100 asked (event 1 1 0 0 106) → ⊥
unfolding mine
second_late r = closed r.turn.action.timing.row (takes_heat r.turn.able.state r.turn.action r.turn.able.acts r.turn.fits.label) r.holds
  where
    closed : (row : ℕ) → row ≡ 0 → (row ≡ 255) ⊎ windows row 6 → ⊥
    closed row q (inl e) = omega arith
    closed row q (inr w) = let x : windows 0 6 = subst (λ (n : ℕ). windows n 6) q w in omega arith

pub second_event : Stops asked (event 1 1 0 0 106) 47 1 0
second_event = record {
  fault = Time 1 0;
  stopping = record {
    no_run = oven_examples.is_late.0;
    refused = (
      refl,
      refl,
      record { role = omega arith; partner = omega arith; apart = λ q. omega arith },
      record { label = omega arith; direction = omega arith },
      omega arith,
      second_turn,
      second_waits,
      λ q. omega arith,
      second_late,
    );
  };
  stop = refl;
}

-- HOT was sent, and FAULT cannot be taken in its place
sixth_no_run : GoesOn oven windows 100 8 answered (event 0 1 1 2 130) → ⊥
unfolding mine along
sixth_no_run r = cc ((r.channels (event 0 0 1 0 103 ∷ event 1 1 0 0 105 ∷ event 1 0 0 1 125 ∷ event 0 1 1 2 130 ∷ []) [] refl 1 0).0.1)

main_sent : Led oven 0 (Start oven 0) 0 1
unfolding turn
main_sent = record {
  state = 0;
  inside = here refl;
  action = sending heat_place;
  labelled = refl;
  step = record { place = heat_place; has = heat_stands; at = refl; acts = refl; leads = refl };
}

sixth_turn : HasTurn oven answered (event 0 1 1 2 130)
unfolding mine turn
sixth_turn = record {
  action = receiving fault_place;
  able = record { state = 1; inside = here main_sent; acts = (2, record { place = fault_place; has = fault_stands; at = refl; acts = refl; leads = refl }) };
  fits = record { direction = refl; partner = refl; label = refl };
}

sixth_other : Waits answered (event 0 1 1 2 130) → ⊥
unfolding mine along waiting
sixth_other w =
    let x = w refl in
    cc (x.2, x.3)

pub sixth_event : Stops answered (event 0 1 1 2 130) 45 0 2
sixth_event = record {
  fault = Line 0 2;
  stopping = record {
    no_run = sixth_no_run;
    refused = (
      refl,
      refl,
      record { role = omega arith; partner = omega arith; apart = λ q. omega arith },
      record { label = omega arith; direction = omega arith },
      omega arith,
      sixth_turn,
      sixth_other,
    );
  };
  stop = refl;
}
