-- What the bits of a mask say.
use Rattle.std.proofs.Common.{◌≡◌, ℕ, ◌/◌, ◌%◌, ◌^◌, Bool, false, ◌||◌, eqb, ◌⊎◌, sym, ap, ◌∙◌, inl, inr, arith}
use lib.Bits.{bit_or}
use Rattle.std.proofs.lemmas.Nat.Bits.{bit_at-zero, bit_at_or, bit_at-pow_same, bit_at-pow_other}
use Rattle.std.proofs.lemmas.Bool.{eq-eqb, ne_eqb, cases_eq}
use Rattle.parting.specs.Masks.{has, add}

pub has_none : (s : ℕ) → has 0 s ≡ false
unfolding has
has_none s = rw (bit_at-zero s)

pub has_add : (s X t : ℕ) → has (add s X) t ≡ (eqb t s || has X t)
unfolding has add
has_add s X t = go (cases_eq t s)
  where
    go : (t ≡ s) ⊎ (t ≡ s → ⊥) → eqb (bit_or X (2 ^ s) / 2 ^ t % 2) 1 ≡ (eqb t s || eqb (X / 2 ^ t % 2) 1)
    go (inl q) =
        let p : 2 ^ s / 2 ^ t % 2 ≡ 1 = rw q (bit_at-pow_same s) in
        eq-eqb (bit_or X (2 ^ s) / 2 ^ t % 2) 1 (omega (arith, bit_at_or X (2 ^ s) t, p)) ∙ sym (ap (λ (b : Bool). b || eqb (X / 2 ^ t % 2) 1) (eq-eqb t s q))
    go (inr n) =
        let r : bit_or X (2 ^ s) / 2 ^ t % 2 ≡ X / 2 ^ t % 2 = omega (arith, bit_at_or X (2 ^ s) t, bit_at-pow_other s t n) in
        ap (λ (k : ℕ). eqb k 1) r ∙ sym (ap (λ (b : Bool). b || eqb (X / 2 ^ t % 2) 1) (ne_eqb t s n))
