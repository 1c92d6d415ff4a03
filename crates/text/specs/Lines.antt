-- Meaning: a line of text.
use Rattle.std.specs.Prelude.{ℕ, List, [], ◌∷◌, ◌++◌, codes}

-- parts one after another, and a line break
abbrev pub line : List (List ℕ) → List ℕ
line [] = codes "\n"
line (part ∷ parts) = part ++ line parts
