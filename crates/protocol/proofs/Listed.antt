-- The places of a sheet one by one, and tests over lists.
use Rattle.std.proofs.Common.{◌≡◌, ℕ, zero, suc, ◌+◌, ◌<◌, Bool, true, false, not, ◌||◌, ◌⊎◌, List, [], ◌∷◌, ◌++◌, map, length, get_or, sym, refl, ap, ◌∙◌, subst, inl, inr, arith}
use mathlib.Core.List.Memᴰ
use mathlib.Core.List.{Memᴰ}
use Rattle.std.proofs.lemmas.Bool.{false≢true}
use Rattle.std.specs.List.{list_all, list_any}
use Rattle.std.proofs.lemmas.List.Folds.{Any-from_list_any}
use Rattle.std.proofs.lemmas.List.Sums.{AllPass-from_list_all}
use Rattle.sheet.specs.declared.branch.Branch.{Branch}
use Rattle.sheet.specs.Model.{Sheet, State, ended, exchange}
use Rattle.protocol.specs.Places.{Place, Has}

-- every place of the sheet, state by state
abbrev pub place_at : ℕ → ℕ → ℕ → Branch → Place
place_at s a b c = record { state = s; sender = a; receiver = b; branch = c }

abbrev pub places_of : ℕ → State → List Place
places_of s ended = []
places_of s (exchange a b bs) = map (place_at s a b) bs

abbrev pub places_numbered : ℕ → List State → List Place
places_numbered s [] = []
places_numbered s (x ∷ xs) = places_of s x ++ places_numbered (suc s) xs

abbrev pub places : Sheet → List Place
places sh = places_numbered 0 sh.states

record At (s : ℕ) (xs : List State) (p : Place) : Type 0 where
  index : ℕ
  state : p.state ≡ s + index
  branches : List Branch
  stands : get_or xs index ended ≡ exchange p.sender p.receiver branches
  among : Memᴰ p.branch branches

here_at : (s : ℕ) (x : State) (xs : List State) (p : Place) → Memᴰ p (places_of s x) → At s (x ∷ xs) p
here_at s ended xs p i = elim i [ ]
here_at s (exchange a b bs) xs p i =
    let r = Memᴰ.of_map (place_at s a b) bs i in
    record { index = 0; state = ap (λ (z : Place). z.state) (sym r.2) ∙ (omega arith); branches = bs; stands = ap (λ (z : Place). exchange z.sender z.receiver bs) r.2; among = Memᴰ.cast (ap (λ (z : Place). z.branch) (sym r.2)) r.1 }

from_at : (s : ℕ) (xs : List State) (p : Place) → Memᴰ p (places_numbered s xs) → At s xs p
from_at s [] p i = elim i [ ]
from_at s (x ∷ xs) p i = go (λ j. from_at (suc s) xs p j) (Memᴰ.append_cases (places_of s x) i)
  where
    go : (Memᴰ p (places_numbered (suc s) xs) → At (suc s) xs p) → Memᴰ p (places_of s x) ⊎ Memᴰ p (places_numbered (suc s) xs) → At s (x ∷ xs) p
    go below (inl j) = here_at s x xs p j
    go below (inr j) =
        let r = below j in
        let q : p.state ≡ suc s + r.index = r.state in
        record { index = suc r.index; state = omega arith; branches = r.branches; stands = r.stands; among = r.among }

to_at : (s : ℕ) (xs : List State) (k a b : ℕ) (bs : List Branch) (c : Branch) → get_or xs k ended ≡ exchange a b bs → Memᴰ c bs → Memᴰ (place_at (s + k) a b c) (places_numbered s xs)
to_at s [] k a b bs c q i = absurd cc
to_at s (x ∷ xs) zero a b bs c q i =
    Memᴰ.append_left (places_numbered (suc s) xs) (subst (λ (z : State). Memᴰ (place_at (s + 0) a b c) (places_of s z)) (sym q) (subst (λ (n : ℕ). Memᴰ (place_at n a b c) (map (place_at s a b) bs)) (omega arith) (Memᴰ.map (place_at s a b) i)))
to_at s (x ∷ xs) (suc k) a b bs c q i =
    Memᴰ.append_right (places_of s x) (subst (λ (n : ℕ). Memᴰ (place_at n a b c) (places_numbered (suc s) xs)) (omega arith) (to_at (suc s) xs k a b bs c q i))

pub has_from_listed : (sh : Sheet) (p : Place) → Memᴰ p (places sh) → Has sh p
has_from_listed sh p i =
    let r = from_at 0 sh.states p i in
    let q : p.state ≡ 0 + r.index = r.state in
    let e : r.index ≡ p.state = omega arith in
    record { branches = r.branches; stands = subst (λ (n : ℕ). get_or sh.states n ended ≡ exchange p.sender p.receiver r.branches) e r.stands; among = r.among }

pub listed_from_has : (sh : Sheet) (p : Place) → Has sh p → Memᴰ p (places sh)
listed_from_has sh p h = subst (λ (n : ℕ). Memᴰ (place_at n p.sender p.receiver p.branch) (places sh)) (omega arith) (to_at 0 sh.states p.state p.sender p.receiver h.branches p.branch h.stands h.among)

-- members and their places
pub index_of : {A : Type 0} (xs : List A) (d x : A) → Memᴰ x xs → (i : ℕ) × (i < length xs) × (get_or xs i d ≡ x)
index_of [] d x i = elim i [ ]
index_of (y ∷ xs) d x (Memᴰ.head e) = (zero, omega arith, sym e)
index_of (y ∷ xs) d x (Memᴰ.tail i) = let r = index_of xs d x i in (suc r.0, omega (arith, r.1), r.2)

pub member_at : {A : Type 0} (xs : List A) (d : A) (i : ℕ) → i < length xs → Memᴰ (get_or xs i d) xs
member_at [] d i l = absurd (omega arith)
member_at (x ∷ xs) d zero l = Memᴰ.head refl
member_at (x ∷ xs) d (suc i) l = Memᴰ.tail (member_at xs d i (omega arith))

-- tests over lists
abbrev pub if_so : Bool → Bool → Bool
if_so a b = not a || b

pub if_true : (a b : Bool) → if_so a b ≡ true → a ≡ true → b ≡ true
if_true true b q r = q
if_true false b q r = absurd (false≢true r)

pub every_true : {A : Type 0} (f : A → Bool) (xs : List A) → list_all f xs ≡ true → (x : A) → Memᴰ x xs → f x ≡ true
every_true f xs q x i = let k = index_of xs x x i in ap f (sym k.2) ∙ AllPass-from_list_all f xs q k.0 x k.1

pub any_true : {A : Type 0} (f : A → Bool) (xs : List A) → list_any f xs ≡ true → (x : A) × Memᴰ x xs × (f x ≡ true)
any_true f xs q =
    let h = Any-from_list_any f xs q in
    (get_or xs h.0 h.1, member_at xs h.1 h.0 h.2, ap f h.3 ∙ h.4)
