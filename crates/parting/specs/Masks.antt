-- Computed: sets of numbers below 64 as the bits of a number.
use Rattle.std.specs.Prelude.{◌≡◌, ℕ, ◌/◌, ◌%◌, ◌^◌, Bool, true, cond, List, [], ◌∷◌, ◌==◌, bit_or}

unfoldable pub has : ℕ → ℕ → Bool
has mask k = mask / 2 ^ k % 2 == 1

unfoldable pub add : ℕ → ℕ → ℕ
add k mask = bit_or mask (2 ^ k)

-- the set of numbers that a mask has
abbrev pub In : ℕ → ℕ → Type 0
In mask k = has mask k ≡ true

-- the mask with what f gives of each element that passes the test
abbrev pub gather : {X : Type 0} → (X → Bool) → (X → ℕ) → ℕ → List X → ℕ
gather test f mask [] = mask
gather test f mask (x ∷ xs) = gather test f (cond (test x) (add (f x) mask) mask) xs
