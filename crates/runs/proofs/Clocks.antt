-- The third and the fourth point of a run for one role, read together from the left.
use Rattle.std.proofs.Common.{◌≡◌, ℕ, suc, ◌-◌, cond, List, [], ◌∷◌, refl, ap, subst₂, arith}
use Rattle.protocol.specs.Actions.{Timing, Action}
use Rattle.events.specs.declared.event.Event.{Event}
use Rattle.runs.specs.Run.{Book, Admits, Fits, Beginning, timings, last_reset, Timely}

-- the events are the beginning of the actions, and at each the clock, last reset at c, is in the row that the action names
abbrev pub Follows : Book → ℕ → List Event → List Action → Type 0
Follows book c [] actions = Unit {0}
Follows book c (e ∷ es) [] = ⊥
Follows book c (e ∷ es) (a ∷ actions) = Fits e a × Admits book a.timing (e.tick - c) × Follows book (cond a.timing.reset e.tick c) es actions

pub beginning : (book : Book) (c : ℕ) (es : List Event) (actions : List Action) → Follows book c es actions → Beginning es actions
beginning book c [] actions f = tt
beginning book c (e ∷ es) [] f = f
beginning book c (e ∷ es) (a ∷ actions) f = (f.0, beginning book (cond a.timing.reset e.tick c) es actions f.2)

pub timely : (book : Book) (c : ℕ) (es : List Event) (actions : List Action) → Follows book c es actions → Timely book c es (timings actions)
timely book c [] actions f [] after e q us vs t q' l = absurd cc
timely book c [] actions f (x ∷ xs) after e q us vs t q' l = absurd cc
timely book c (x ∷ es) [] f before after e q us vs t q' l = absurd f
timely book c (x ∷ es) (y ∷ actions) f [] after e q [] vs t q' l = let same : y.timing ≡ t = cc in let this : x ≡ e = cc in subst₂ (λ (u : Timing) (v : Event). Admits book u (v.tick - c)) same this f.1
timely book c (x ∷ es) (y ∷ actions) f [] after e q (u ∷ us) vs t q' l = absurd (omega arith)
timely book c (x ∷ es) (y ∷ actions) f (z ∷ before) after e q [] vs t q' l = absurd (omega arith)
timely book c (x ∷ es) (y ∷ actions) f (z ∷ before) after e q (u ∷ us) vs t q' l =
    let same : y.timing ≡ u = cc in
    let this : x ≡ z = cc in
    subst₂ (λ (r : Timing) (v : Event). Admits book t (e.tick - last_reset (cond r.reset v.tick c) before us)) same this
    (timely book (cond y.timing.reset x.tick c) es actions f.2 before after e (cc) us vs t (cc) (cc))

pub follows : (book : Book) (c : ℕ) (es : List Event) (actions : List Action) → Beginning es actions → Timely book c es (timings actions) → Follows book c es actions
follows book c [] actions b t = tt
follows book c (e ∷ es) [] b t = b
follows book c (e ∷ es) (a ∷ actions) b t = (
  b.0,
  t [] es e refl [] (timings actions) a.timing refl refl,
  follows book (cond a.timing.reset e.tick c) es actions b.1 (λ xs ys x q us vs y q' l. t (e ∷ xs) ys x (ap (λ (z : List Event). e ∷ z) q) (a.timing ∷ us) vs y (ap (λ (z : List Timing). a.timing ∷ z) q') (ap suc l)),
)
