-- Meaning: a row is a set of clock values, and `holds` says whether a value is in it.
use Rattle.std.specs.Prelude.{ℕ, ◌^◌, ◌<◌, ◌≤◌, Bool, true, false}

-- whether the value is in the set
abbrev pub Holds : (ℕ → Type 0) → ℕ → Bool → Type 0
Holds P v true = P v
Holds P v false = P v → ⊥

-- a row of a book with so many rows: the set where the row is below the count, and no value where it is not
abbrev pub InRow : ℕ → ℕ → (ℕ → Type 0) → ℕ → Type 0
InRow count row P v = (row < count) × P v

-- the two say the same
abbrev pub Same : Type 0 → Type 0 → Type 0
Same P Q = (P → Q) × (Q → P)

-- what is true of every book: it has at most 64 rows, a row at or past their count admits nothing, and an admitted value has 32 bits
pub record Bounded {B : Type 0} (count : B → ℕ) (admits : B → ℕ → ℕ → Type 0) : Type 0 where
  pub few : (b : B) → count b ≤ 64
  pub beyond : (b : B) (row v : ℕ) → count b ≤ row → admits b row v → ⊥
  pub ranged : (b : B) (row v : ℕ) → admits b row v → v < 2 ^ 32
