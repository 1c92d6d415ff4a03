-- Masks with the same bits are the same number.
use Rattle.std.proofs.Common.{◌≡◌, ℕ, ◌/◌, ◌%◌, ◌^◌, ◌<◌, eqb, Decides, arith}
use Rattle.std.proofs.lemmas.Nat.Bits.{bit_at-lt, same_from_bits}
use Rattle.std.proofs.lemmas.Bool.Decides.{nat_tests, same_from_decides}
use Rattle.parting.specs.Masks.{has}

odd_same : (a b : ℕ) → a < 2 → b < 2 → eqb a 1 ≡ eqb b 1 → a ≡ b
odd_same a b h k e = grind (arith, nat_tests)

pub same_masks : (X Y : ℕ) → ((s : ℕ) → has X s ≡ has Y s) → X ≡ Y
unfolding has
same_masks X Y e = same_from_bits X Y (λ s. odd_same (X / 2 ^ s % 2) (Y / 2 ^ s % 2) (bit_at-lt X s) (bit_at-lt Y s) (e s))

pub decided_same : (X Y : ℕ) (P : ℕ → Type 0) → ((s : ℕ) → Decides (has X s) (P s)) → ((s : ℕ) → Decides (has Y s) (P s)) → X ≡ Y
decided_same X Y P x y = same_masks X Y (λ s. same_from_decides (has X s) (has Y s) (x s) (y s))
