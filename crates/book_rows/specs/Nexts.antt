-- Meaning: `next` gives the least value of a row's set at or above the one asked, or none.
use Rattle.std.specs.Prelude.{ℕ, ◌<◌, ◌≤◌, Some, None, Option}

-- the least value of the set at or above v
pub record LeastFrom (P : ℕ → Type 0) (v w : ℕ) : Type 0 where
  pub above : v ≤ w
  pub within : P w
  pub least : (u : ℕ) → v ≤ u → u < w → P u → ⊥

-- the set has no value at or above v
abbrev pub NoneFrom : (ℕ → Type 0) → ℕ → Type 0
NoneFrom P v = (u : ℕ) → v ≤ u → P u → ⊥

abbrev pub Next : (ℕ → Type 0) → ℕ → Option ℕ → Type 0
Next P v None = NoneFrom P v
Next P v (Some w) = LeastFrom P v w
