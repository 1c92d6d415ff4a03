-- Meaning: what follows for every book from what `holds` answers.
use Rattle.std.specs.Prelude.{◌≡◌, ℕ, ◌^◌, ◌≤◌, Bool, false}
use Rattle.book_rows.specs.Sets.{Holds}

pub record HoldsLaws (count : ℕ) (admits : ℕ → ℕ → Type 0) : Type 0 where
  -- a row and a value have one answer
  pub once : (row v : ℕ) (a b : Bool) → Holds (admits row) v a → Holds (admits row) v b → a ≡ b
  -- no row at or past the count holds
  pub beyond : (row v : ℕ) (a : Bool) → count ≤ row → Holds (admits row) v a → a ≡ false
  -- no value above 4,294,967,295 holds
  pub above : (row v : ℕ) (a : Bool) → 2 ^ 32 ≤ v → Holds (admits row) v a → a ≡ false
