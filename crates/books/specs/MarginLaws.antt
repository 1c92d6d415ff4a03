-- Meaning: what margins are to the book below and to one another.
use Rattle.std.specs.Prelude.{ℕ, ◌+◌, ◌-◌, ◌^◌, ◌≤◌}
use Rattle.books.specs.Margins.{Near}
use Rattle.book_rows.specs.Sets.{Same}

-- the margin of 0 is the book below
abbrev pub NoMargin : (ℕ → Type 0) → Type 0
NoMargin P = (v : ℕ) → Same (Near P 0 v) (P v)

-- a margin over a margin is the margin of the sum; from 4,294,967,295 on, every margin is as wide as the range
pub record Piled (P : ℕ → Type 0) : Type 0 where
  pub sum : (d e v : ℕ) → Same (Near (Near P d) e v) (Near P (d + e) v)
  pub widest : (e v : ℕ) → 2 ^ 32 - 1 ≤ e → Same (Near P e v) (Near P (2 ^ 32 - 1) v)
