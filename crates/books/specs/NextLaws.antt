-- Meaning: what follows for every book from what `next` answers: it agrees with `holds`.
use Rattle.std.specs.Prelude.{◌≡◌, ℕ, ◌<◌, ◌≤◌, Bool, true, false, Some, None, Option}
use Rattle.book_rows.specs.Nexts.{Next}
use Rattle.book_rows.specs.Sets.{Holds}

pub record NextLaws (P : ℕ → Type 0) : Type 0 where
  -- a value has one answer
  pub once : (v : ℕ) (a b : Option ℕ) → Next P v a → Next P v b → a ≡ b
  -- what `next` gives holds
  pub given : (v w : ℕ) (a : Bool) → Next P v (Some w) → Holds P w a → a ≡ true
  -- nothing between holds
  pub between : (v w u : ℕ) (a : Bool) → Next P v (Some w) → v ≤ u → u < w → Holds P u a → a ≡ false
  -- where there is no next, nothing from there on holds
  pub none : (v u : ℕ) (a : Bool) → Next P v None → v ≤ u → Holds P u a → a ≡ false
  -- a value that holds is its own next
  pub itself : (v : ℕ) (a : Option ℕ) → Holds P v true → Next P v a → a ≡ Some v
