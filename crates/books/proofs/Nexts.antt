-- What `next` answers of one set, it answers of another with the same values.
use Rattle.std.proofs.Common.{ℕ, ◌<◌, Some, None, Option}
use Rattle.book_rows.specs.Nexts.{Next}
use Rattle.book_rows.specs.Sets.{InRow}

pub next_same : (P Q : ℕ → Type 0) → ((u : ℕ) → P u → Q u) → ((u : ℕ) → Q u → P u) → (v : ℕ) (o : Option ℕ) → Next P v o → Next Q v o
next_same P Q to from v None h = λ u k q. h u k (from u q)
next_same P Q to from v (Some w) h =
    record { above = h.above; within = to w h.within; least = λ u k l q. h.least u k l (from u q) }

-- the answer of a row that a book has
pub next_in_row : (count row : ℕ) (P : ℕ → Type 0) → row < count → (v : ℕ) (o : Option ℕ) → Next P v o → Next (InRow count row P) v o
next_in_row count row P h = next_same P (InRow count row P) (λ u p. (h, p)) (λ u p. p.1)
