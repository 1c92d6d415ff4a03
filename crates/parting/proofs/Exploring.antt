-- Exploring a role's sets: what each turn keeps.
use Rattle.std.proofs.Common.{◌≡◌, ℕ, suc, ◌+◌, ◌-◌, ◌<◌, ◌≤◌, List, [], ◌∷◌, length, get_or, drop, Some, Ok, Err, Result, refl, ap, ◌∙◌, ⊎_elim, arith}
use Rattle.std.proofs.lemmas.List.{drop_more, drop_all}
use Rattle.std.proofs.lemmas.Bool.{cases_lt, lt-ltb, le-ltb}
use Rattle.parting.specs.declared.fault.PartFault.{PartFault}
use Rattle.parting.specs.Family.{View, outcome, entered, sets, stopped, visited, explored, family_of, start_set}
use Rattle.parting.specs.Masks.{add}
use Rattle.parting.specs.Spread.{spread}
use Rattle.parting.proofs.Entering.{entered_new}

pub drop_head : (k x : ℕ) (xs ys : List ℕ) → drop k xs ≡ x ∷ ys → (k < length xs) × (get_or xs k 0 ≡ x) × (ys ≡ drop (k + 1) xs)
drop_head k x xs ys e = ⊎_elim
    (λ h. let m = drop_more xs k 0 h in (h, (cc), (cc)))
    (λ h. let m = drop_all k xs h in absurd cc)
    (cases_lt k (length xs))

pub drop-none : (k : ℕ) (xs : List ℕ) → drop k xs ≡ [] → length xs ≤ k
drop-none k xs e = ⊎_elim
    (λ h. let m = drop_more xs k 0 h in absurd cc)
    (λ h. h)
    (cases_lt k (length xs))

module _ (role : ℕ) (v : View) (labels : ℕ) where
  pub explored_more : (k : ℕ) (found more : List ℕ) → k < 33 → k < length found → visited role v labels k (get_or found k 0) found ≡ sets more
      → explored role v labels (33 - k) k found ≡ explored role v labels (33 - (k + 1)) (k + 1) more
  explored_more k found more h l e =
      let n : 33 - k ≡ suc (33 - (k + 1)) = omega arith in
      let t = lt-ltb k (length found) l in
      ap (λ m. explored role v labels m k found) n ∙ rw (t, e, explored)

  pub explored_stop : (k : ℕ) (found : List ℕ) (f : PartFault) → k < 33 → k < length found → visited role v labels k (get_or found k 0) found ≡ stopped f
      → explored role v labels (33 - k) k found ≡ stopped f
  explored_stop k found f h l e =
      let n : 33 - k ≡ suc (33 - (k + 1)) = omega arith in
      let t = lt-ltb k (length found) l in
      ap (λ m. explored role v labels m k found) n ∙ rw (t, e, explored)

  pub explored_end : (k : ℕ) (found : List ℕ) → k < 33 → length found ≤ k → explored role v labels (33 - k) k found ≡ sets found
  explored_end k found h l =
      let n : 33 - k ≡ suc (33 - (k + 1)) = omega arith in
      let t = le-ltb k (length found) l in
      ap (λ m. explored role v labels m k found) n ∙ rw t

-- the first set
outcome_some : {T E : Type 0} (r : Result T E) (xs ys : List ℕ) → outcome r xs ≡ Some ys → xs ≡ ys
outcome_some (Ok x) xs ys e = cc
outcome_some (Err x) xs ys e = cc

pub start_is : (v : View) → spread v.silent 1 ≡ start_set v
unfolding start_set add
start_is v = refl

pub started : {T E : Type 0} (role : ℕ) (v : View) (labels k mask : ℕ) (r : Result T E) (before after : List ℕ)
    → k ≡ 0 → before ≡ [] → mask ≡ start_set v → outcome r after ≡ entered before mask → explored role v labels (33 - k) k after ≡ family_of role v labels
unfolding family_of
started role v labels k mask r before after none nothing start e =
    let one : entered before mask ≡ Some (mask ∷ []) = ap (λ xs. entered xs mask) nothing ∙ entered_new [] mask (omega arith) (omega arith) in
    let is : after ≡ start_set v ∷ [] = outcome_some r after (mask ∷ []) (e ∙ one) ∙ ap (λ m. m ∷ []) start in
    ap (λ n. explored role v labels (33 - n) n after) none ∙ ap (explored role v labels 33 0) is
