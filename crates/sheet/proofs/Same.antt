-- The laws of sameness. Only this file opens `alike`.
use Rattle.std.proofs.Common.{◌≡◌, ℕ, true, List, [], ◌∷◌, sym, refl, ◌∙◌, ap₂}
use Rattle.std.proofs.lemmas.Bool.{false≢true, and_parts, and_from, eqb-true, eq-eqb}
use Rattle.sheet.specs.Names.{alike, same}

alike_refl : (x : ℕ) → alike x x ≡ true
unfolding alike
alike_refl x = eq-eqb x x refl

alike_sym : (x y : ℕ) → alike x y ≡ true → alike y x ≡ true
unfolding alike
alike_sym x y h = eq-eqb y x (sym (eqb-true x y h))

alike_trans : (x y z : ℕ) → alike x y ≡ true → alike y z ≡ true → alike x z ≡ true
unfolding alike
alike_trans x y z h k = eq-eqb x z (eqb-true x y h ∙ eqb-true y z k)

alike_equal : (x y : ℕ) → alike x y ≡ true → x ≡ y
unfolding alike
alike_equal x y h = eqb-true x y h

pub same_refl : (a : List ℕ) → same a a ≡ true
same_refl [] = refl
same_refl (x ∷ a) = and_from (alike x x) (same a a) (alike_refl x) (same_refl a)

pub same_sym : (a b : List ℕ) → same a b ≡ true → same b a ≡ true
same_sym [] [] h = refl
same_sym [] (y ∷ b) h = absurd (false≢true h)
same_sym (x ∷ a) [] h = absurd (false≢true h)
same_sym (x ∷ a) (y ∷ b) h =
    let p = and_parts (alike x y) (same a b) h in
    and_from (alike y x) (same b a) (alike_sym x y p.0) (same_sym a b p.1)

pub same_trans : (a b c : List ℕ) → same a b ≡ true → same b c ≡ true → same a c ≡ true
same_trans [] [] c h k = k
same_trans [] (y ∷ b) c h k = absurd (false≢true h)
same_trans (x ∷ a) [] c h k = absurd (false≢true h)
same_trans (x ∷ a) (y ∷ b) [] h k = absurd (false≢true k)
same_trans (x ∷ a) (y ∷ b) (z ∷ c) h k =
    let p = and_parts (alike x y) (same a b) h in
    let q = and_parts (alike y z) (same b c) k in
    and_from (alike x z) (same a c) (alike_trans x y z p.0 q.0) (same_trans a b c p.1 q.1)

-- holds while names are the same only byte for byte, so nothing here rests on it
pub same_equal : (a b : List ℕ) → same a b ≡ true → a ≡ b
same_equal [] [] h = refl
same_equal [] (y ∷ b) h = absurd (false≢true h)
same_equal (x ∷ a) [] h = absurd (false≢true h)
same_equal (x ∷ a) (y ∷ b) h =
    let p = and_parts (alike x y) (same a b) h in
    ap₂ (λ (z : ℕ) (zs : List ℕ). z ∷ zs) (alike_equal x y p.0) (same_equal a b p.1)
