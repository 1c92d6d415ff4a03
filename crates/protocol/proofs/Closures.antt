-- Sets of states that hold the same states have the same closures, successors and soundness.
use Rattle.std.proofs.Common.{◌≡◌, ℕ, List, [], ◌∷◌, ◌++◌, refl}
use Rattle.sheet.specs.Model.{Sheet}
use Rattle.protocol.specs.Places.{Place, Has}
use Rattle.protocol.specs.Actions.{turn}
use Rattle.protocol.specs.Sets.{Silent, here, on, Led, Successor, After, Followed}
use Rattle.protocol.specs.Sound.{Sound}

abbrev pub Within : (ℕ → Type 0) → (ℕ → Type 0) → Type 0
Within X Y = (s : ℕ) → X s → Y s

-- X holds, with each of its states in which role m takes no part, that state's next states
abbrev pub Closed : Sheet → ℕ → (ℕ → Type 0) → Type 0
Closed sh m X = (p : Place) → Has sh p → X p.state → turn m p ≡ [] → X p.branch.next

pub silent_closed : (sh : Sheet) (m : ℕ) (X : ℕ → Type 0) → Closed sh m (Silent sh m X)
silent_closed sh m X p hp x t = on p hp x t refl

pub silent_within : (sh : Sheet) (m : ℕ) (X Y : ℕ → Type 0) → Within X Y → Within (Silent sh m X) (Silent sh m Y)
silent_within sh m X Y w s (here x) = here (w s x)
silent_within sh m X Y w s (on p hp x t q) = on p hp (silent_within sh m X Y w p.state x) t q

abbrev pub led_within : (sh : Sheet) (m : ℕ) (X Y : ℕ → Type 0) → Within X Y → (l t : ℕ) → Led sh m X l t → Led sh m Y l t
led_within sh m X Y w l t x = record { state = x.state; inside = w x.state x.inside; action = x.action; labelled = x.labelled; step = x.step }

pub successor_within : (sh : Sheet) (m : ℕ) (X Y : ℕ → Type 0) → Within X Y → (l : ℕ) → Within (Successor sh m X l) (Successor sh m Y l)
successor_within sh m X Y w l = silent_within sh m (Led sh m X l) (Led sh m Y l) (led_within sh m X Y w l)

pub after_within : (sh : Sheet) (m : ℕ) (X Y : ℕ → Type 0) → Within X Y → (ls : List ℕ) → Within (After sh m X ls) (After sh m Y ls)
after_within sh m X Y w [] = w
after_within sh m X Y w (l ∷ ls) = after_within sh m (Successor sh m X l) (Successor sh m Y l) (successor_within sh m X Y w l) ls

pub followed_within : (sh : Sheet) (m : ℕ) (X Y : ℕ → Type 0) → Within X Y → (ls : List ℕ) → Followed sh m X ls → Followed sh m Y ls
followed_within sh m X Y w [] f = tt
followed_within sh m X Y w (l ∷ ls) f =
    ((f.0.0, led_within sh m X Y w l f.0.0 f.0.1), followed_within sh m (Successor sh m X l) (Successor sh m Y l) (successor_within sh m X Y w l) ls f.1)

pub sound_within : (sh : Sheet) (m : ℕ) (X Y : ℕ → Type 0) → Within X Y → Within Y X → Sound sh m X → Sound sh m Y
sound_within sh m X Y there back ok = record {
  one_side = λ s t x y. ok.one_side s t (back s x) (back t y);
  same_offer = λ s t x y. ok.same_offer s t (back s x) (back t y);
  no_clash = λ s t x y. ok.no_clash s t (back s x) (back t y);
  told = λ s x a i t y. ok.told s (back s x) a i t (back t y);
}

-- one label more
pub after_push : (sh : Sheet) (m : ℕ) (X : ℕ → Type 0) (ls : List ℕ) (l : ℕ) → After sh m X (ls ++ (l ∷ [])) ≡ Successor sh m (After sh m X ls) l
after_push sh m X [] l = refl
after_push sh m X (k ∷ ls) l = after_push sh m (Successor sh m X k) ls l

pub followed_push : (sh : Sheet) (m : ℕ) (X : ℕ → Type 0) (ls : List ℕ) (l t : ℕ) → Followed sh m X ls → Led sh m (After sh m X ls) l t → Followed sh m X (ls ++ (l ∷ []))
followed_push sh m X [] l t f x = ((t, x), tt)
followed_push sh m X (k ∷ ls) l t f x = (f.0, followed_push sh m (Successor sh m X k) ls l t f.1 x)
