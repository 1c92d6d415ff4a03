-- A state and its bytes, each from the other.
use Rattle.std.proofs.Common.{◌≡◌, ℕ, ◌*◌, ◌/◌, ◌%◌, List, [], ◌∷◌, map, length, refl, ap, arith}
use Rattle.std.specs.List.{flat_map, AllByRecursion}
use Rattle.sheet.specs.declared.branch.Branch.{Branch}
use Rattle.sheet.specs.Model.{State, ended, exchange}
use Rattle.sheet.specs.Encode.{branch_bytes, body}
use Rattle.sheet.specs.Decode.{branches, state_of}
use Rattle.sheet.proofs.Checks.{BodySize}

pub branches_joined : (bs : List Branch) → branches (flat_map branch_bytes bs) ≡ bs
branches_joined [] = refl
branches_joined (b ∷ bs) = ap (λ (rest : List Branch). b ∷ rest) (branches_joined bs)

pub state_of_body : (st : State) → state_of (body st) ≡ st
state_of_body ended = refl
state_of_body (exchange sender receiver bs) = ap (exchange sender receiver) (branches_joined bs)

pub joined_branches : (xs : List ℕ) → length xs % 5 ≡ 0 → flat_map branch_bytes (branches xs) ≡ xs
joined_branches [] h = refl
joined_branches (a ∷ []) h = absurd (omega arith)
joined_branches (a ∷ b ∷ []) h = absurd (omega arith)
joined_branches (a ∷ b ∷ c ∷ []) h = absurd (omega arith)
joined_branches (a ∷ b ∷ c ∷ d ∷ []) h = absurd (omega arith)
joined_branches (a ∷ b ∷ c ∷ d ∷ e ∷ rest) h =
    ap (λ (more : List ℕ). a ∷ b ∷ c ∷ d ∷ e ∷ more) (joined_branches rest (omega arith))

pub body_state_of : (p : List ℕ) → BodySize (length p) → body (state_of p) ≡ p
body_state_of [] h = refl
body_state_of (a ∷ []) h = absurd (omega arith)
body_state_of (a ∷ b ∷ rest) h = ap (λ (more : List ℕ). a ∷ b ∷ more) (joined_branches rest (omega arith))

pub map-body_state_of : (ps : List (List ℕ)) → AllByRecursion (λ p. BodySize (length p)) ps → map body (map state_of ps) ≡ ps
map-body_state_of [] h = refl
map-body_state_of (p ∷ ps) h = rw (body_state_of p h.0, map-body_state_of ps h.1)

pub map-state_of_body : (sts : List State) → map state_of (map body sts) ≡ sts
map-state_of_body [] = refl
map-state_of_body (st ∷ sts) = rw (state_of_body st, map-state_of_body sts)

pub length-branch_bytes : (bs : List Branch) → length (flat_map branch_bytes bs) ≡ 5 * length bs
length-branch_bytes [] = refl
length-branch_bytes (b ∷ bs) = omega (arith, length-branch_bytes bs)

pub length-branches : (xs : List ℕ) → length (branches xs) ≡ length xs / 5
length-branches [] = refl
length-branches (a ∷ []) = refl
length-branches (a ∷ b ∷ []) = refl
length-branches (a ∷ b ∷ c ∷ []) = refl
length-branches (a ∷ b ∷ c ∷ d ∷ []) = refl
length-branches (a ∷ b ∷ c ∷ d ∷ e ∷ rest) = omega (arith, length-branches rest)
