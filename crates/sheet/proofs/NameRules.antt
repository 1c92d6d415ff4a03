-- What the check of the names has to say: printable bytes, and no name the same as an earlier one.
use Rattle.std.proofs.Common.{◌≡◌, ℕ, ◌+◌, ◌<◌, ◌≤◌, true, not, ◌⊎◌, List, [], ◌∷◌, ◌++◌, map, length, get_or, Decides, sym, refl, subst, inl, inr, arith}
use Rattle.std.specs.List.{HoldsAt, AllByRecursion}
use Rattle.std.proofs.lemmas.List.{append_assoc, length-append, length_push, get_or_at, get_or_append_left, get_or_default}
use Rattle.std.proofs.lemmas.Bool.{cases_eq}
use Rattle.std.proofs.lemmas.Bool.Decides.{Decides-by_or, Decides-not, Decides-like}
use Rattle.sheet.specs.declared.fault.ReadFault.TheVariants.{Byte, Twice}
use Rattle.sheet.specs.Model.{Name}
use Rattle.sheet.specs.Names.{same}
use Rattle.sheet.specs.Valid.{Between, Distinct}
use Rattle.sheet.specs.declared.span.Span.{Span}
use Rattle.sheet.specs.Decode.{cut}
use Rattle.sheet.specs.Refuse.{byte_fault, among, name_fault}
use Rattle.sheet.proofs.Checks.{Clear, clear_unless, clear_first, clear_like, decides_within}

abbrev pub Printable : Name → Type 0
Printable = AllByRecursion (Between 0x21 0x7E)

pub clear_bytes : (offset : ℕ) (name : Name) → Clear (byte_fault offset name) (Printable name)
clear_bytes offset [] = (λ _. tt, λ _. refl)
clear_bytes offset (b ∷ bs) = clear_first _ _ (clear_unless _ (Byte offset) (decides_within 0x21 0x7E b)) (clear_bytes (offset + 1) bs)

-- the name is the same as none of the earlier ones
abbrev pub Fresh : Name → List Name → Type 0
Fresh name earlier = (k : ℕ) → k < length earlier → same name (get_or earlier k []) ≡ true → ⊥

pub decides_fresh : (name : Name) (earlier : List Name) → Decides (not (among name earlier)) (Fresh name earlier)
decides_fresh name earlier =
    Decides-like (not (among name earlier)) there back
    (Decides-not (among name earlier) (Decides-by_or (same name) (λ e. same name e ≡ true) (among name) (λ e. (λ h. h, λ h. h)) refl (λ _ _. refl) earlier))
  where
    Found : Type 0
    Found = (k : ℕ) × (k < length earlier) × HoldsAt (λ e. same name e ≡ true) earlier k

    there : (Found → ⊥) → Fresh name earlier
    there none k l s = none (k, l, λ d. rw (get_or_default earlier k d [] l) s)

    back : Fresh name earlier → Found → ⊥
    back fresh w = fresh w.0 w.1 (w.2 [])

-- each of the names is the same as none before it, nor as one of the earlier ones
abbrev pub New : List Name → List Name → Type 0
New earlier [] = Unit {0}
New earlier (p ∷ ps) = Fresh p earlier × New (earlier ++ p ∷ []) ps

pub clear_names : (bytes : List ℕ) (i : ℕ) (earlier : List Name) (ss : List Span) → Clear (name_fault bytes i earlier ss) (AllByRecursion Printable (map (cut bytes) ss) × New earlier (map (cut bytes) ss))
clear_names bytes i earlier [] = (λ _. (tt, tt), λ _. refl)
clear_names bytes i earlier (s ∷ ss) =
    clear_like _
    (λ h. ((h.0, h.1.1.0), (h.1.0, h.1.1.1)))
    (λ h. (h.0.0, (h.1.0, (h.0.1, h.1.1))))
    (clear_first _ _ (clear_bytes s.offset (cut bytes s)) (clear_first _ _ (clear_unless _ (Twice i) (decides_fresh (cut bytes s) earlier)) (clear_names bytes (i + 1) (earlier ++ cut bytes s ∷ []) ss)))

-- from index n on, each of the names is the same as none before it
abbrev From : ℕ → List Name → Type 0
From n names = (i j : ℕ) → i < j → n ≤ j → j < length names → same (get_or names j []) (get_or names i []) ≡ true → ⊥

from_new : (earlier ps : List Name) → New earlier ps → From (length earlier) (earlier ++ ps)
from_new earlier [] n i j h l k s = absurd (omega (arith, length-append earlier []))
from_new earlier (p ∷ ps) n i j h l k s = go (subst (From (length (earlier ++ p ∷ []))) (append_assoc earlier (p ∷ []) ps) (from_new (earlier ++ p ∷ []) ps n.1)) (cases_eq j (length earlier))
  where
    go : From (length (earlier ++ p ∷ [])) (earlier ++ p ∷ ps) → (j ≡ length earlier) ⊎ (j ≡ length earlier → ⊥) → ⊥
    go rest (inl e) =
        let below : i < length earlier = omega arith in
        n.0 i below (rw (get_or_at earlier p ps [] j (sym e), get_or_append_left earlier (p ∷ ps) [] i below) at s)
    go rest (inr ne) = rest i j h (omega (arith, length_push earlier p)) k s

new_from : (earlier ps : List Name) → From (length earlier) (earlier ++ ps) → New earlier ps
new_from earlier [] f = tt
new_from earlier (p ∷ ps) f = (
  λ k h s. f k (length earlier) h (omega arith) (omega (arith, length-append earlier (p ∷ ps))) (rw (get_or_at earlier p ps [] (length earlier) refl, get_or_append_left earlier (p ∷ ps) [] k h) s),
  new_from (earlier ++ p ∷ []) ps (subst (From (length (earlier ++ p ∷ []))) (sym (append_assoc earlier (p ∷ []) ps)) (λ i j h l k s. f i j h (omega (arith, length_push earlier p)) k s)),
)

pub distinct_from_new : (ps : List Name) → New [] ps → Distinct ps
distinct_from_new ps n i j h k s = from_new [] ps n i j h (omega arith) k s

pub new_from_distinct : (ps : List Name) → Distinct ps → New [] ps
new_from_distinct ps d = new_from [] ps (λ i j h l k s. d i j h k s)
