-- Labels by name, through the laws of sameness.
use Rattle.std.proofs.Common.{◌≡◌, ℕ, ◌+◌, ◌<◌, Bool, true, false, List, [], length, get_or, Some, None, Option, MatchOption, sym, ap, ◌∙◌, ⊎_elim, arith}
use Rattle.std.specs.List.{range_with_len, AllWithin, HoldsAt}
use Rattle.std.proofs.lemmas.List.FromFn.{length-range_with_len, get_or-range_with_len}
use Rattle.std.proofs.lemmas.Bool.{both_ways, cases_order}
use Rattle.sheet.specs.Decode.{model}
use Rattle.sheet.specs.Model.{Name, Sheet}
use Rattle.sheet.specs.Names.{same}
use Rattle.sheet.specs.Refuse.{fault}
use Rattle.sheet.specs.Valid.{Distinct}
use Rattle.sheet.proofs.Same.{same_refl, same_sym, same_trans, same_equal}
use Rattle.sheet.proofs.Sound.{valid_model}
use Rattle.sheet.proofs.Whole.{clear_fault}
use Rattle.reading.specs.Finding.{Called, Finds, FindsExactly}

pub labels_distinct : (bytes : List ℕ) → fault bytes ≡ None → Distinct (model bytes).labels
labels_distinct bytes clean = (valid_model bytes ((clear_fault bytes).0 clean)).labels_distinct

clash : (sh : Sheet) → Distinct sh.labels → (name : Name) (i j : ℕ) → i < j → Called sh name i → Called sh name j → ⊥
clash sh distinct name i j h a b =
    distinct i j h b.0 (same_trans (get_or sh.labels j []) name (get_or sh.labels i []) b.1 (same_sym (get_or sh.labels i []) name a.1))

-- at most one label has a name
pub only_one : (sh : Sheet) → Distinct sh.labels → (name : Name) (i j : ℕ) → Called sh name i → Called sh name j → j ≡ i
only_one sh distinct name i j a b =
    ⊎_elim sym (⊎_elim (λ h. absurd (clash sh distinct name i j h a b)) (λ h. absurd (clash sh distinct name j i h b a))) (cases_order i j)

-- byte for byte
pub exactly : (sh : Sheet) (name : Name) (r : Option ℕ) → Finds sh name r → FindsExactly sh name r
exactly sh name None f = λ i h e. f i (h, ap (λ n. same n name) e ∙ same_refl name)
exactly sh name (Some i) f = (f.0.0, same_equal _ _ f.0.1)

-- what a search through the labels in their order finds
pub finds_first : (sh : Sheet) → Distinct sh.labels → (name : Name) (first : ℕ) (test : ℕ → Bool)
    → ((i : ℕ) → i < length sh.labels → same (get_or sh.labels i []) name ≡ test (first + i))
    → (r : Option ℕ) (all : List ℕ) → all ≡ range_with_len first (length sh.labels)
    → MatchOption r (AllWithin (λ j. test j ≡ false) all 0 (length all)) (λ i. (i < length all) × HoldsAt (λ j. test j ≡ true) all i × AllWithin (λ j. test j ≡ false) all 0 i)
    → Finds sh name r
finds_first sh distinct name first test told None all e m = λ i a.
    let many : length all ≡ length sh.labels = ap length e ∙ length-range_with_len first (length sh.labels) in
    let at : get_or all i 0 ≡ first + i = ap (λ xs. get_or xs i 0) e ∙ get_or-range_with_len first (length sh.labels) i 0 a.0 in
    both_ways (test (first + i)) (sym (ap test at) ∙ m i 0 (omega arith) (omega (arith, a.0))) (sym (told i a.0) ∙ a.1)
finds_first sh distinct name first test told (Some i) all e m =
    let many : length all ≡ length sh.labels = ap length e ∙ length-range_with_len first (length sh.labels) in
    let inside : i < length sh.labels = omega (arith, m.0) in
    let at : get_or all i 0 ≡ first + i = ap (λ xs. get_or xs i 0) e ∙ get_or-range_with_len first (length sh.labels) i 0 inside in
    let found : Called sh name i = (inside, told i inside ∙ sym (ap test at) ∙ m.1 0) in
    (found, λ j b. only_one sh distinct name i j found b)
