-- Meaning: when two names are the same. Used only through the laws in proofs/Same.antt.
use Rattle.std.specs.Prelude.{ℕ, Bool, true, false, ◌&&◌, List, [], ◌∷◌, ◌==◌}

-- two bytes of a name read alike
unfoldable pub alike : ℕ → ℕ → Bool
alike x y = x == y

abbrev pub same : List ℕ → List ℕ → Bool
same [] [] = true
same [] (y ∷ ys) = false
same (x ∷ xs) [] = false
same (x ∷ xs) (y ∷ ys) = alike x y && same xs ys
