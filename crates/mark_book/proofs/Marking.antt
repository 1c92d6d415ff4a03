-- The least of the values that the marks give a row is its next value.
use Rattle.std.proofs.Common.{◌≡◌, ℕ, zero, suc, ◌+◌, ◌^◌, ◌<◌, ◌≤◌, min, Bool, ◌&&◌, ◌==◌, nat_le, ◌⊎◌, List, [], ◌∷◌, ◌++◌, length, get_or, take, map, Some, None, Option, unwrap_or, sym, refl, ap, ◌∙◌, subst, inl, inr, ⊎_elim, arith, add-one}
use Rattle.std.specs.Prelude.{filter, IfSome}
use Rattle.std.specs.List.{reduce}
use Rattle.std.proofs.Math.Seq.{take-suc, take-length}
use Rattle.std.proofs.lemmas.List.{append-nil, map-append}
use Rattle.std.proofs.lemmas.List.Elements.{filter-append}
use Rattle.std.proofs.lemmas.List.Sums.{fold-append}
use Rattle.std.proofs.lemmas.Bool.{cases_lt, cases_Bool, cond-true, cond-false, and_from, and_parts, eqb-true, eq-eqb, leb-true, le-leb, both_ways}
use Rattle.books.specs.Nexts.{Next, LeastFrom}
use Rattle.mark_book.specs.declared.Mark.{Mark}
use Rattle.mark_book.specs.Marked.{Marked, no_mark}

-- whether the mark is of the row, and not below v
abbrev pub is_wanted : ℕ → ℕ → Mark → Bool
is_wanted row v m = m.row == row && nat_le v m.value

-- the values of the wanted marks
abbrev pub values_from : ℕ → ℕ → List Mark → List ℕ
values_from row v marks = map (λ m. m.value) (filter (is_wanted row v) marks)

-- the mark puts u into the row
abbrev Puts : Mark → ℕ → ℕ → Type 0
Puts m row u = (m.row ≡ row) × (m.value ≡ u)

-- one of the first i marks does
abbrev Put : List Mark → ℕ → ℕ → ℕ → Type 0
Put ms i row u = (k : ℕ) × (k < i) × ((get_or ms k no_mark).row ≡ row) × ((get_or ms k no_mark).value ≡ u)

module _ (ms : List Mark) (i row : ℕ) where
  split : (u : ℕ) → Put ms (i + 1) row u → Put ms i row u ⊎ Puts (get_or ms i no_mark) row u
  split u l =
      ⊎_elim (λ below. inl (l.0, below, l.2, l.3)) (λ last. let e : l.0 ≡ i = omega (arith, last, l.1) in inr (subst (λ k. Puts (get_or ms k no_mark) row u) e (l.2, l.3)))
      (cases_lt l.0 i)

  -- a mark of another row, or below the value asked, changes nothing
  passed : (v : ℕ) (o : Option ℕ) → ((get_or ms i no_mark).row ≡ row → v ≤ (get_or ms i no_mark).value → ⊥) → Next (Put ms i row) v o → Next (Put ms (i + 1) row) v o
  passed v None out n = λ u h l. ⊎_elim (n u h) (λ e. out e.0 (omega (arith, e.1, h))) (split u l)
  passed v (Some w) out n = record {
    above = n.above;
    within = (n.within.0, omega (arith, n.within.1), n.within.2, n.within.3);
    least = λ u h k l. ⊎_elim (n.least u h k) (λ e. out e.0 (omega (arith, e.1, h))) (split u l);
  }

  -- any other is next, unless an earlier one was
  taken : (v x : ℕ) (o : Option ℕ) → Puts (get_or ms i no_mark) row x → v ≤ x → Next (Put ms i row) v o → Next (Put ms (i + 1) row) v (Some (min (unwrap_or o x) x))
  taken v x None is h n =
      let e : min x x ≡ x = omega arith in
      subst (LeastFrom (Put ms (i + 1) row) v) (sym e)
      (record { above = h; within = (i, omega arith, is.0, is.1); least = λ u g k l. ⊎_elim (n u g) (λ e. omega (arith, e.1, is.1, k)) (split u l) })
  taken v x (Some w) is h n =
      ⊎_elim
      (λ first. let e : min w x ≡ x = omega (arith, first) in
      subst (LeastFrom (Put ms (i + 1) row) v) (sym e) (record {
        above = h;
        within = (i, omega arith, is.0, is.1);
        least = λ u g k l. ⊎_elim (n.least u g (omega (arith, k, first))) (λ e. omega (arith, e.1, is.1, k)) (split u l);
      }))
      (λ later. let e : min w x ≡ w = omega (arith, later) in
      subst (LeastFrom (Put ms (i + 1) row) v) (sym e) (record {
        above = n.above;
        within = (n.within.0, omega (arith, n.within.1), n.within.2, n.within.3);
        least = λ u g k l. ⊎_elim (n.least u g k) (λ e. omega (arith, e.1, is.1, k, later)) (split u l);
      }))
      (cases_lt x w)

reduce_more : (xs : List ℕ) (x : ℕ) → reduce min (xs ++ x ∷ []) ≡ Some (min (unwrap_or (reduce min xs) x) x)
reduce_more [] x = let e : x ≡ min x x = omega arith in ap Some e
reduce_more (y ∷ ys) x = ap Some (fold-append min y ys (x ∷ []))

module _ (ms : List Mark) (row v : ℕ) where
  one_more : (i : ℕ) → i < length ms → Next (Put ms i row) v (reduce min (values_from row v (take i ms))) → Next (Put ms (i + 1) row) v (reduce min (values_from row v (take (i + 1) ms)))
  one_more i h before =
      let m = get_or ms i no_mark in
      let cut : take (i + 1) ms ≡ take i ms ++ m ∷ [] = rw add-one (take-suc ms i no_mark h) in
      let more : values_from row v (take (i + 1) ms) ≡ values_from row v (take i ms) ++ map (λ n. n.value) (filter (is_wanted row v) (m ∷ [])) =
      rw (cut, filter-append, map-append) refl in
      elim (cases_Bool (is_wanted row v m)) [
        | inl t ↦
            let kept : filter (is_wanted row v) (m ∷ []) ≡ m ∷ [] = cond-true _ _ _ t in
            rw (more, kept, reduce_more) (taken ms i row v m.value _ (eqb-true m.row row (and_parts _ _ t).0, refl) (leb-true v m.value (and_parts _ _ t).1) before)
        | inr f ↦
            let kept : filter (is_wanted row v) (m ∷ []) ≡ [] = cond-false _ _ _ f in
            rw (more, kept, append-nil)
            (passed ms i row v _ (λ same above. both_ways (is_wanted row v m) f (and_from _ _ (eq-eqb m.row row same) (le-leb v m.value above))) before)
      ]

  next_from : (i : ℕ) → i ≤ length ms → Next (Put ms i row) v (reduce min (values_from row v (take i ms)))
  next_from zero h = λ u g l. absurd (omega (arith, l.1))
  next_from (suc i) h = rw (← add-one) (one_more i (omega arith) (next_from i (omega arith)))

-- a clock value that is next among all numbers is next among the clock values
ranged : (ms : List Mark) (i row v : ℕ) (o : Option ℕ) → IfSome o (λ w. w < 2 ^ 32) → Next (Put ms i row) v o → Next (Marked ms i row) v o
ranged ms i row v None fits n = λ u h p. n u h p.1
ranged ms i row v (Some w) fits n = record { above = n.above; within = (fits, n.within); least = λ u h k p. n.least u h k p.1 }

pub next_marked : (ms : List Mark) (row v : ℕ) (o : Option ℕ) → o ≡ reduce min (values_from row v ms) → IfSome o (λ w. w < 2 ^ 32) → Next (Marked ms (length ms) row) v o
next_marked ms row v o is fits =
    ranged ms (length ms) row v o fits
    (subst (Next (Put ms (length ms) row) v) (ap (λ xs. reduce min (values_from row v xs)) (take-length ms) ∙ sym is) (next_from ms row v (length ms) (omega arith)))
