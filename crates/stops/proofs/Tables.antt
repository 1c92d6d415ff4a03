-- A table whose numbers rise finds each of its rows.
use Rattle.std.proofs.Common.{◌≡◌, ℕ, zero, suc, ◌<◌, Bool, true, ◌&&◌, ltb, List, [], ◌∷◌, length, get_or, Some, None, refl, ◌∙◌, arith}
use Rattle.std.proofs.lemmas.Bool.{and_parts, ltb-true, eq-eqb, ne_eqb, cond-true, cond-false}
use Rattle.stops.specs.Words.{Row, words, word_of, blank, Rising, Named}

-- the test that the checker computes: every number is above n, and the next ones above it
abbrev pub rises_from : ℕ → List Row → Bool
rises_from n [] = true
rises_from n (row ∷ rows) = ltb n row.0 && rises_from row.0 rows

pub above : (n : ℕ) (rows : List Row) → rises_from n rows ≡ true → (j : ℕ) → j < length rows → n < (get_or rows j blank).0
above n [] t j h = absurd (omega arith)
above n (row ∷ rows) t zero h = ltb-true _ _ (and_parts _ _ t).0
above n (row ∷ rows) t (suc j) h =
    let lt : n < row.0 = ltb-true _ _ (and_parts _ _ t).0 in
    let gt : row.0 < (get_or rows j blank).0 = above row.0 rows (and_parts _ _ t).1 j (omega arith) in
    omega arith

pub rises : (n : ℕ) (rows : List Row) → rises_from n rows ≡ true → Rising rows
rises n [] t i j h k = absurd (omega arith)
rises n (row ∷ rows) t i zero h k = absurd (omega arith)
rises n (row ∷ rows) t zero (suc j) h k = above row.0 rows (and_parts _ _ t).1 j (omega arith)
rises n (row ∷ rows) t (suc i) (suc j) h k = rises row.0 rows (and_parts _ _ t).1 i j (omega arith) (omega arith)

pub finds : (n : ℕ) (rows : List Row) → rises_from n rows ≡ true → (i : ℕ) → i < length rows → word_of (get_or rows i blank).0 rows ≡ Some (get_or rows i blank).1
finds n [] t i h = absurd (omega arith)
finds n (row ∷ rows) t zero h = cond-true _ _ (word_of row.0 rows) (eq-eqb row.0 row.0 refl)
finds n (row ∷ rows) t (suc i) h =
    let gt : row.0 < (get_or rows i blank).0 = above row.0 rows (and_parts _ _ t).1 i (omega arith) in
    cond-false _ _ _ (ne_eqb row.0 (get_or rows i blank).0 (λ e. omega (arith, gt, e))) ∙ finds row.0 rows (and_parts _ _ t).1 i (omega arith)

pub absent : (rows : List Row) (n : ℕ) → ((i : ℕ) → i < length rows → (get_or rows i blank).0 ≡ n → ⊥) → word_of n rows ≡ None
absent [] n h = refl
absent (row ∷ rows) n h =
    cond-false _ _ _ (ne_eqb _ _ (h zero (omega arith))) ∙ absent rows n (λ i k. h (suc i) (omega arith))

pub words_rise : Rising words
words_rise = rises 0 words refl

pub words_named : Named words
words_named = record { found = finds 0 words refl; absent = absent words }
