-- A state's body and its branch bytes, one piece at a time.
use Rattle.std.proofs.Common.{◌≡◌, ℕ, ◌*◌, ◌≤◌, List, [], ◌∷◌, length, drop, refl, arith}
use Rattle.sheet.specs.declared.branch.Branch.{Branch}
use Rattle.sheet.specs.Decode.{byte, branches, state_of}
use Rattle.sheet.specs.Model.{exchange}
use Rattle.sheet.proofs.Bodies.{length-branches}

abbrev pub first_branch : List ℕ → Branch
first_branch xs = record { label = byte xs 0; next = byte xs 1; send = byte xs 2; receive = byte xs 3; resets = byte xs 4 }

pub branches_more : (xs : List ℕ) → 5 ≤ length xs → branches xs ≡ first_branch xs ∷ branches (drop 5 xs)
branches_more [] h = absurd (omega arith)
branches_more (a ∷ []) h = absurd (omega arith)
branches_more (a ∷ b ∷ []) h = absurd (omega arith)
branches_more (a ∷ b ∷ c ∷ []) h = absurd (omega arith)
branches_more (a ∷ b ∷ c ∷ d ∷ []) h = absurd (omega arith)
branches_more (a ∷ b ∷ c ∷ d ∷ e ∷ rest) h = refl

-- five bytes a branch
pub branches_length : (xs : List ℕ) → 5 * length (branches xs) ≤ length xs
branches_length xs = omega (arith, length-branches xs)

pub state_more : (xs : List ℕ) → 2 ≤ length xs → state_of xs ≡ exchange (byte xs 0) (byte xs 1) (branches (drop 2 xs))
state_more [] h = absurd (omega arith)
state_more (a ∷ []) h = absurd (omega arith)
state_more (a ∷ b ∷ rest) h = refl
