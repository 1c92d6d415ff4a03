-- Reading a book's bytes row by row.
use Rattle.std.proofs.Common.{◌≡◌, ℕ, zero, suc, ◌+◌, ◌-◌, ◌*◌, ◌/◌, ◌%◌, ◌<◌, ◌≤◌, Bool, true, false, List, [], ◌∷◌, ◌++◌, length, get_or, drop, Some, None, Decides, Option, sym, refl, ap, ◌∙◌, subst, add-mul, arith, below_more, ⊎_elim}
use native.Mathlib.Numerals.{unary_clauses}
use Rattle.std.proofs.Math.Nat.{le-div_iff_mul-le}
use Rattle.std.proofs.Math.Seq.{drop-append_seam, take-append_seam, get_or-append_seam}
use Rattle.std.proofs.lemmas.List.{length-take-le, length-drop, length-append, drop-drop, get_or_append_left}
use Rattle.std.proofs.lemmas.Nat.{mul-le, div-add-mod'}
use Rattle.std.proofs.lemmas.Option.{MatchOption-at_some, MatchOption-at_none, slice_get_cases}
use Rattle.std.proofs.lemmas.Bool.{cond-true, cond-false, and_from, and_parts, eq-eqb, eqb-true, le-leb, leb-true, cond_both, both_ways}
use Rattle.books.specs.declared.fault.BookFault.{BookFault}
use Rattle.books.specs.declared.fault.BookFault.TheVariants.{Row, Rows}
use Rattle.book_rows.specs.Bytes.{row_at, RowsAdmit}
use Rattle.book_rows.specs.Sets.{Same}
use Rattle.books.specs.Faults.{bad_from, fault_of, whole}
use Rattle.books.specs.Rows.{Whole, Ruled, Judged}
use Rattle.books.specs.Tables.{AmongRows}

-- a row ends within the bytes
pub row_ends : (size given row : ℕ) → row < given / size → row * size + size ≤ given
row_ends size given row h =
    let m : (row + 1) * size ≤ given / size * size = mul-le (row + 1) size (given / size) size (omega arith) (omega arith) in
    omega (arith, m, add-mul row 1 size, div-add-mod' given size)

pub row_long : (size : ℕ) (bytes : List ℕ) (row : ℕ) → row < length bytes / size → length (row_at size bytes row) ≡ size
row_long size bytes row h = length-take-le size (drop (row * size) bytes) (rw length-drop (omega (arith, row_ends size (length bytes) row h)))

module _ (size : ℕ) (rule : List ℕ → Bool) (bytes : List ℕ) (n i : ℕ) where
  bad_more : i < n → rule (row_at size bytes i) ≡ true → bad_from size rule bytes i (n - i) ≡ bad_from size rule bytes (i + 1) (n - (i + 1))
  bad_more h good =
      let e : n - i ≡ suc (n - (i + 1)) = omega arith in
      ap (bad_from size rule bytes i) e ∙ cond-true _ _ _ good

  bad_here : i < n → rule (row_at size bytes i) ≡ false → bad_from size rule bytes i (n - i) ≡ Some (Row i)
  bad_here h bad =
      let e : n - i ≡ suc (n - (i + 1)) = omega arith in
      ap (bad_from size rule bytes i) e ∙ cond-false _ _ _ bad

  bad_none : n ≤ i → bad_from size rule bytes i (n - i) ≡ None
  bad_none h = let e : n - i ≡ 0 = omega arith in ap (bad_from size rule bytes i) e

-- bytes that are a whole number of rows, at most 64, have the fault of their first bad row
pub fault_of_rows : (size : ℕ) (rule : List ℕ → Bool) (bytes : List ℕ) (o : Option BookFault) → length bytes % size ≡ 0 → length bytes / size ≤ 64
    → bad_from size rule bytes 0 (length bytes / size) ≡ o → o ≡ fault_of size rule bytes
fault_of_rows size rule bytes o w f e =
    sym e ∙ sym (cond-true _ _ _ (and_from _ _ (eq-eqb _ 0 w) (le-leb _ 64 f)))

-- the computed fault is the one that the rule gives
module _ (size : ℕ) (rule : List ℕ → Bool) (Rule : List ℕ → Type 0) (decided : (row : List ℕ) → Decides (rule row) (Rule row)) (bytes : List ℕ) where
  rows_judged : Whole size bytes → (n i : ℕ) → i + n ≡ length bytes / size → Ruled size Rule bytes i → Judged size Rule bytes (bad_from size rule bytes i n)
  rows_judged w zero i e h = (w, λ k l. h k (omega (arith, e, l)))
  rows_judged w (suc n) i e h =
      cond_both (rule (row_at size bytes i)) (bad_from size rule bytes (i + 1) n) (Some (Row i)) (Judged size Rule bytes)
      (λ t. rows_judged w n (i + 1) (omega (arith, e)) (below_more _ i h ((decided (row_at size bytes i)).0 t)))
      (λ f. (w, omega (arith, e), (λ p. both_ways (rule (row_at size bytes i)) f ((decided (row_at size bytes i)).1 p)), h))

  pub fault_judged : Judged size Rule bytes (fault_of size rule bytes)
  fault_judged =
      cond_both (whole size bytes) (bad_from size rule bytes 0 (length bytes / size)) (Some (Rows (length bytes))) (Judged size Rule bytes)
      (λ t. rows_judged (eqb-true _ 0 (and_parts _ _ t).0, leb-true _ 64 (and_parts _ _ t).1) (length bytes / size) 0 (omega arith) (λ i h. absurd (omega arith)))
      (λ f. ((λ w. both_ways (whole size bytes) f (and_from _ _ (eq-eqb _ 0 w.0) (le-leb _ 64 w.1))), refl))

  pub judged_by : (o : Option BookFault) → o ≡ fault_of size rule bytes → Judged size Rule bytes o
  judged_by o e = subst (Judged size Rule bytes) (sym e) fault_judged

-- what is known once so many rows are read, and this much is left: they have their numbers, and no row so far is bad
pub record ReadSoFar {R : Type 0} (size : ℕ) (rule : List ℕ → Bool) (reads : List ℕ → R → Type 0) (bytes : List ℕ) (rows : List R) (left : List ℕ) : Type 0 where
  pub left_is : left ≡ drop (length rows * size) bytes
  pub within : length rows ≤ length bytes / size
  pub fault : bad_from size rule bytes (length rows) (length bytes / size - length rows) ≡ bad_from size rule bytes 0 (length bytes / size)
  pub numbers : (i : ℕ) → i < length rows → (d : R) → reads (row_at size bytes i) (get_or rows i d)

module _ {R : Type 0} (size : ℕ) (rule : List ℕ → Bool) (reads : List ℕ → R → Type 0) (bytes : List ℕ) where
  pub read_none : ReadSoFar size rule reads bytes [] bytes
  read_none =
      let none : length {A = R} [] * size ≡ 0 = omega arith in
      record { left_is = rw none refl; within = omega arith; fault = simp unary_clauses; numbers = λ i h. absurd (omega arith) }

  module _ (sized : 0 < size) (rows : List R) (left part rest : List ℕ) (so : ReadSoFar size rule reads bytes rows left) (cut : left ≡ part ++ rest) (long : length part ≡ size) where
    -- the part that is cut off is the next row
    part_is : part ≡ row_at size bytes (length rows)
    part_is = rw (← so.left_is, cut, ← long) (sym (take-append_seam part rest))

    rest_is : rest ≡ drop (length rows * size + size) bytes
    rest_is = rw (← drop-drop size (length rows * size) bytes, ← so.left_is, cut, ← long) (sym (drop-append_seam part rest))

    pub row_within : length rows < length bytes / size
    row_within =
        let whole : length left ≡ length part + length rest = ap length cut ∙ length-append part rest in
        let left_long : length left ≡ length bytes - length rows * size = ap length so.left_is ∙ length-drop (length rows * size) bytes in
        let fits : (length rows + 1) * size ≤ length bytes = omega (arith, add-mul (length rows) 1 size, whole, left_long, long, sized) in
        let more : length rows + 1 ≤ length bytes / size = (le-div_iff_mul-le sized).1 fits in
        omega arith

    pub read_more : (r : R) → reads part r → (length part ≡ size → true ≡ rule part) → ReadSoFar size rule reads bytes (rows ++ r ∷ []) rest
    read_more r is good =
        let one : length (rows ++ r ∷ []) ≡ length rows + 1 = length-append rows (r ∷ []) in
        let next : (length rows + 1) * size ≡ length rows * size + size = omega (arith, add-mul (length rows) 1 size) in
        let holds : rule (row_at size bytes (length rows)) ≡ true = ap rule (sym part_is) ∙ sym (good long) in
        record {
          left_is = rw (one, next) rest_is;
          within = omega (arith, one, row_within);
          fault = rw one (sym (bad_more size rule bytes (length bytes / size) (length rows) row_within holds) ∙ so.fault);
          numbers = rw one (below_more (λ i. (d : R) → reads (row_at size bytes i) (get_or (rows ++ r ∷ []) i d)) (length rows)
              (λ i h d. rw (get_or_append_left rows (r ∷ []) d i h) (so.numbers i h d))
              (λ d. rw (get_or-append_seam rows r [] d, ← part_is) is));
        }

    pub read_bad : (length part ≡ size → false ≡ rule part) → bad_from size rule bytes 0 (length bytes / size) ≡ Some (Row (length rows))
    read_bad bad = sym so.fault ∙ bad_here size rule bytes (length bytes / size) (length rows) row_within (ap rule (sym part_is) ∙ sym (bad long))

  module _ (sized : 0 < size) (rows : List R) (left : List ℕ) (so : ReadSoFar size rule reads bytes rows left) (short : length left < size) where
    pub read_all : length rows ≡ length bytes / size
    read_all =
        let left_long : length left ≡ length bytes - length rows * size = ap length so.left_is ∙ length-drop (length rows * size) bytes in
        let fits : length rows + 1 ≤ length bytes / size → (length rows + 1) * size ≤ length bytes = (le-div_iff_mul-le sized).0 in
        grind (arith, fits, add-mul (length rows) 1 size, left_long, so.within)

    pub read_good : bad_from size rule bytes 0 (length bytes / size) ≡ None
    read_good = sym so.fault ∙ bad_none size rule bytes (length bytes / size) (length rows) (omega (arith, read_all))

    -- the rows have the sets that the bytes mean
    pub read_same : (within : R → ℕ → Type 0) (meant : List ℕ → ℕ → Type 0) → ((row : List ℕ) (r : R) → reads row r → (v : ℕ) → Same (within r v) (meant row v))
        → (row v : ℕ) → Same (AmongRows within rows row v) (RowsAdmit size meant bytes row v)
    read_same within meant same row v =
        ⊎_elim
        (λ found.
        let r = found.0 in
        let is = same (row_at size bytes row) r (subst (reads (row_at size bytes row)) found.3 (so.numbers row found.1 r)) v in
        ((λ p. (omega (arith, found.1, read_all), is.0 (MatchOption-at_some ⊥ (λ s. within s v) r found.2 p))), (λ q. rw found.2 (is.1 q.1))))
        (λ none. ((λ p. absurd (MatchOption-at_none ⊥ (λ s. within s v) none.1 p)), (λ q. absurd (omega (arith, q.0, none.0, read_all)))))
        (slice_get_cases rows row).1
