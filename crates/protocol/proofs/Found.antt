-- Sets that begin with a role's start set, are sound, and hold with each set its successors are all the role's sets.
use Rattle.std.proofs.Common.{◌≡◌, ℕ, ◌<◌, ◌≤◌, Bool, true, false, List, [], ◌∷◌, length, get_or, Decides}
use Rattle.sheet.specs.Model.{Sheet}
use Rattle.protocol.specs.Sets.{Start, Led, Successor, After, Followed}
use Rattle.protocol.specs.Sound.{Sound}
use Rattle.protocol.specs.Accepted.{HasPart}
use Rattle.protocol.proofs.Closures.{Within, successor_within, led_within, sound_within}

-- the states in set i
abbrev pub Of : List (ℕ → Bool) → ℕ → ℕ → Type 0
Of sets i s = get_or sets i (λ _. false) s ≡ true

-- set i holds just the states of X
abbrev pub Is : List (ℕ → Bool) → ℕ → (ℕ → Type 0) → Type 0
Is sets i X = (s : ℕ) → Decides (get_or sets i (λ _. false) s) (X s)

pub record Found (sh : Sheet) (m : ℕ) (sets : List (ℕ → Bool)) : Type 0 where
  pub any : 0 < length sets
  pub first : Is sets 0 (Start sh m)
  pub sound : (i : ℕ) → i < length sets → Sound sh m (Of sets i)
  pub next : (i : ℕ) → i < length sets → (l t : ℕ) → Led sh m (Of sets i) l t → (j : ℕ) × (j < length sets) × Is sets j (Successor sh m (Of sets i) l)

module _ (sh : Sheet) (m : ℕ) (sets : List (ℕ → Bool)) (found : Found sh m sets) where
  after_found : (ls : List ℕ) (X : ℕ → Type 0) (i : ℕ) → i < length sets → Is sets i X → Followed sh m X ls → (j : ℕ) × (j < length sets) × Is sets j (After sh m X ls)
  after_found [] X i l is f = (i, l, is)
  after_found (k ∷ ls) X i l is f =
      let there : Within X (Of sets i) = λ s x. (is s).1 x in
      let back : Within (Of sets i) X = λ s x. (is s).0 x in
      let n = found.next i l k f.0.0 (led_within sh m X (Of sets i) there k f.0.0 f.0.1) in
      after_found ls (Successor sh m X k) n.0 n.1
      (λ s. (λ q. successor_within sh m (Of sets i) X back k s ((n.2 s).0 q), λ x. (n.2 s).1 (successor_within sh m X (Of sets i) there k s x))) f.1

  pub found_part : length sets ≤ 32 → HasPart sh m
  found_part few = record {
    sound = λ ls f. let n = after_found ls (Start sh m) 0 found.any found.first f in sound_within sh m (Of sets n.0) (After sh m (Start sh m) ls) (λ s x. (n.2 s).0 x) (λ s x. (n.2 s).1 x) (found.sound n.0 n.1);
    sets = sets;
    few = few;
    all = λ ls f. after_found ls (Start sh m) 0 found.any found.first f;
  }
