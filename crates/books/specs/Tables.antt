-- Meaning: a book's rows as a list. Computed: what the books' ghost members cite.
use Rattle.std.specs.Prelude.{ℕ, ◌^◌, ◌<◌, ◌≤◌, List, length, slice_get, MatchOption, Some, None}
use Rattle.std.proofs.Common.{arith}
use Rattle.std.proofs.lemmas.Option.{slice_get_past, MatchOption-at_none}
use Rattle.book_rows.specs.Sets.{Bounded}

-- a row number has the set of the row at that place, and no value where there is none
abbrev pub AmongRows : {R : Type 0} → (R → ℕ → Type 0) → List R → ℕ → ℕ → Type 0
AmongRows within rows row v = MatchOption (slice_get rows row) ⊥ (λ r. within r v)

-- a row is below the count or at or past it, not both
pub past : (count row : ℕ) → row < count → count ≤ row → ⊥
past count row h k = omega arith

among_ranged : {R : Type 0} (within : R → ℕ → Type 0) (ranged : (r : R) (v : ℕ) → within r v → v < 2 ^ 32) (rows : List R) (row v : ℕ)
    → AmongRows within rows row v → v < 2 ^ 32
among_ranged within ranged rows row v = elim (slice_get rows row) as (λ o. MatchOption o ⊥ (λ r. within r v) → v < 2 ^ 32) [
  | None ↦ λ p. absurd p
  | Some r ↦ ranged r v
]

-- a book with a list of at most 64 rows has what every book shows
pub rows_bounded : {R B : Type 0} (within : R → ℕ → Type 0) (rows : B → List R) → ((b : B) → length (rows b) ≤ 64) → ((r : R) (v : ℕ) → within r v → v < 2 ^ 32)
    → Bounded (λ b. length (rows b)) (λ b. AmongRows within (rows b))
rows_bounded within rows few ranged = record {
  few = few;
  beyond = λ b row v h p. MatchOption-at_none ⊥ (λ r. within r v) (slice_get_past (rows b) row h) p;
  ranged = λ b row v p. among_ranged within ranged (rows b) row v p;
}
