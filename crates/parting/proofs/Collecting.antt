-- A loop that gathers what is listed of each element.
use Rattle.std.proofs.Common.{◌≡◌, ℕ, Bool, true, false, cond, List, [], ◌∷◌, ◌++◌, drop, filter, refl, ap}
use Rattle.std.specs.Bool.{then_some}
use Rattle.std.specs.List.{flat_map}
use Rattle.parting.specs.Lists.{listed}

-- what was found in the first i elements, and what is listed of the others
abbrev pub Collecting : {X Y : Type 0} → (X → List Y) → List X → List Y → ℕ → Type 0
Collecting f xs found i = found ++ flat_map f (drop i xs) ≡ flat_map f xs

-- the same, of another name for what was found
pub collecting_at : {X Y : Type 0} (f : X → List Y) (xs : List X) (found : List Y) (i : ℕ) (same : List Y) → same ≡ found → Collecting f xs found i → Collecting f xs same i
collecting_at f xs found i same e c = rw e c

-- those that pass a test
abbrev pub kept : {X : Type 0} → (X → Bool) → X → List X
kept p x = cond (p x) (x ∷ []) []

pub joined_kept : {X : Type 0} (p : X → Bool) (xs : List X) → flat_map (kept p) xs ≡ filter p xs
joined_kept p [] = refl
joined_kept p (x ∷ xs) = go (p x) (joined_kept p xs)
  where
    go : (b : Bool) → flat_map (kept p) xs ≡ filter p xs → cond b (x ∷ []) [] ++ flat_map (kept p) xs ≡ cond b (x ∷ filter p xs) (filter p xs)
    go true e = ap (λ l. x ∷ l) e
    go false e = e

pub listed_then_some : {X : Type 0} (b : Bool) (x : X) → listed (then_some b x) ≡ cond b (x ∷ []) []
listed_then_some true x = refl
listed_then_some false x = refl
