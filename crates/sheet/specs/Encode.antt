-- Meaning: the bytes of a sheet, edition 1.
use Rattle.std.specs.Prelude.{ℕ, ◌+◌, ◌*◌, ◌/◌, ◌%◌, List, [], ◌∷◌, ◌++◌, map, length}
use Rattle.std.specs.List.{flat_map}
use Rattle.sheet.specs.declared.branch.Branch.{Branch}
use Rattle.sheet.specs.Model.{State, ended, exchange, Sheet}

-- a number of 16 bits, the high byte first
abbrev pub wide : ℕ → List ℕ
wide n = (n / 256) ∷ (n % 256) ∷ []

-- a branch is five bytes
abbrev pub branch_bytes : Branch → List ℕ
branch_bytes b = b.label ∷ b.next ∷ b.send ∷ b.receive ∷ b.resets ∷ []

-- an end has no bytes
abbrev pub body : State → List ℕ
body ended = []
body (exchange sender receiver branches) = sender ∷ receiver ∷ flat_map branch_bytes branches

-- the pieces: names of roles, names of labels, states
abbrev pub pieces : Sheet → List (List ℕ)
pieces sh = sh.roles ++ (sh.labels ++ map body sh.states)

-- one pair of offset and length for each piece; the first begins at `at`, every other where the one before ends
abbrev pub pairs : ℕ → List (List ℕ) → List ℕ
pairs at [] = []
pairs at (p ∷ ps) = wide at ++ (wide (length p) ++ pairs (at + length p) ps)

-- the edition and the counts
abbrev pub header : Sheet → List ℕ
header sh = 1 ∷ length sh.roles ∷ length sh.labels ∷ length sh.states ∷ sh.rows ∷ []

-- where the first piece begins: right after the pairs
abbrev pub begin : ℕ → ℕ
begin count = 5 + 4 * count

unfoldable pub encode : Sheet → List ℕ
encode sh = header sh ++ (pairs (begin (length (pieces sh))) (pieces sh) ++ flat_map (λ p. p) (pieces sh))
