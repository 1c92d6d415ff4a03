-- Meaning: a margin admits the values that are near one of the row below.
use Rattle.std.specs.Prelude.{ℕ, ◌+◌, ◌^◌, ◌<◌, ◌≤◌}
use Rattle.book_rows.specs.Sets.{Bounded}

-- the clock values at most e away from some value of the set
abbrev pub Near : (ℕ → Type 0) → ℕ → ℕ → Type 0
Near P e v = (v < 2 ^ 32) × ((w : ℕ) × P w × (w ≤ v + e) × (v ≤ w + e))

-- a margin has what every book shows, where the book below has it
pub near_bounded : {B M : Type 0} {count : B → ℕ} {admits : B → ℕ → ℕ → Type 0} (below : M → B) (by : M → ℕ)
    → Bounded count admits → Bounded (λ m. count (below m)) (λ m row. Near (admits (below m) row) (by m))
near_bounded below by h = record {
  few = λ m. h.few (below m);
  beyond = λ m row v k p. h.beyond (below m) row p.1.0 k p.1.1;
  ranged = λ m row v p. p.0;
}
