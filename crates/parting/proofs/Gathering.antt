-- What a mask that gathers from a list has.
use Rattle.std.proofs.Common.{◌≡◌, ℕ, Bool, true, false, cond, eqb, ◌⊎◌, List, [], ◌∷◌, Decides, filter, get_or, sym, refl, ap, ◌∙◌, subst, inl, inr}
use mathlib.Core.List.{Memᴰ}
use Rattle.std.specs.List.{All, list_all}
use Rattle.std.proofs.lemmas.List.Elements.{All-get_or}
use Rattle.std.proofs.lemmas.Bool.Decides.{Decides-like, Decides-by_and}
use Rattle.protocol.proofs.Listed.{index_of, member_at}
use Rattle.std.proofs.lemmas.Bool.{eq-eqb, eqb-true, cases_Bool, cond-true, cond-false, or_cases, or_left, or_right, false≢true}
use Rattle.parting.specs.Masks.{has, add, In, gather}
use Rattle.parting.proofs.Bits.{has_add, has_none}

module _ {X : Type 0} (test : X → Bool) (f : X → ℕ) where
  Out : ℕ → List X → Type 0
  Out k xs = (x : X) × Memᴰ x xs × (test x ≡ true) × (f x ≡ k)

  pub gather_keeps : (mask : ℕ) (xs : List X) (k : ℕ) → In mask k → In (gather test f mask xs) k
  gather_keeps mask [] k h = h
  gather_keeps mask (x ∷ xs) k h = gather_keeps (cond (test x) (add (f x) mask) mask) xs k (go (test x))
    where
      go : (b : Bool) → In (cond b (add (f x) mask) mask) k
      go true = has_add (f x) mask k ∙ or_right (eqb k (f x)) (has mask k) h
      go false = h

  pub gather_to : (mask : ℕ) (xs : List X) (x : X) → Memᴰ x xs → test x ≡ true → In (gather test f mask xs) (f x)
  gather_to mask [] x i t = elim i [ ]
  gather_to mask (y ∷ xs) x (Memᴰ.head q) t =
      let u : test y ≡ true = ap test (sym q) ∙ t in
      let h : In (add (f y) mask) (f x) = has_add (f y) mask (f x) ∙ or_left (eqb (f x) (f y)) (has mask (f x)) (eq-eqb (f x) (f y) (ap f q)) in
      gather_keeps (cond (test y) (add (f y) mask) mask) xs (f x) (subst (λ m. In m (f x)) (sym (cond-true (test y) (add (f y) mask) mask u)) h)
  gather_to mask (y ∷ xs) x (Memᴰ.tail i) t = gather_to (cond (test y) (add (f y) mask) mask) xs x i t

  pub gather_from : (mask : ℕ) (xs : List X) (k : ℕ) → In (gather test f mask xs) k → In mask k ⊎ ((x : X) × Memᴰ x xs × (test x ≡ true) × (f x ≡ k))
  gather_from mask [] k h = inl h
  gather_from mask (x ∷ xs) k h = go (cases_Bool (test x)) (gather_from (cond (test x) (add (f x) mask) mask) xs k h)
    where
      Goal : Type 0
      Goal = In mask k ⊎ ((y : X) × Memᴰ y (x ∷ xs) × (test y ≡ true) × (f y ≡ k))

      new : test x ≡ true → (eqb k (f x) ≡ true) ⊎ (has mask k ≡ true) → Goal
      new t (inl e) = inr (x, Memᴰ.head refl, t, sym (eqb-true k (f x) e))
      new t (inr e) = inl e

      go : (test x ≡ true) ⊎ (test x ≡ false) → In (cond (test x) (add (f x) mask) mask) k ⊎ ((y : X) × Memᴰ y xs × (test y ≡ true) × (f y ≡ k)) → Goal
      go t (inr r) = inr (r.0, Memᴰ.tail r.1, r.2, r.3)
      go (inl t) (inl i) = new t (or_cases (eqb k (f x)) (has mask k) (sym (has_add (f x) mask k) ∙ subst (λ m. In m k) (cond-true (test x) (add (f x) mask) mask t) i))
      go (inr t) (inl i) = inl (subst (λ m. In m k) (cond-false (test x) (add (f x) mask) mask t) i)

  -- from nothing
  pub gathered : (xs : List X) (k : ℕ) → In (gather test f 0 xs) k → (x : X) × Memᴰ x xs × (test x ≡ true) × (f x ≡ k)
  gathered xs k h = go (gather_from 0 xs k h)
    where
      go : In 0 k ⊎ ((x : X) × Memᴰ x xs × (test x ≡ true) × (f x ≡ k)) → (x : X) × Memᴰ x xs × (test x ≡ true) × (f x ≡ k)
      go (inl e) = absurd (false≢true (sym (has_none k) ∙ e))
      go (inr r) = r

  pub gather_none : (mask : ℕ) (xs : List X) → ((x : X) → Memᴰ x xs → test x ≡ false) → gather test f mask xs ≡ mask
  gather_none mask [] n = refl
  gather_none mask (x ∷ xs) n = ap (λ m. gather test f m xs) (cond-false (test x) (add (f x) mask) mask (n x (Memᴰ.head refl))) ∙ gather_none mask xs (λ y i. n y (Memᴰ.tail i))

-- what holds of each element holds of the members, and the other way round
pub all_mem : {A : Type 0} (P : A → Type 0) (xs : List A) → All P xs → (x : A) → Memᴰ x xs → P x
all_mem P xs h x i = let k = index_of xs x x i in subst P k.2 (All-get_or P xs k.0 x k.1 h)

pub mem_all : {A : Type 0} (P : A → Type 0) (xs : List A) → ((x : A) → Memᴰ x xs → P x) → All P xs
mem_all P xs f = λ k d h. f (get_or xs k d) (member_at xs d k h)

pub every_decides : {A : Type 0} (f : A → Bool) (P : A → Type 0) → ((x : A) → Decides (f x) (P x)) → (xs : List A) → Decides (list_all f xs) ((x : A) → Memᴰ x xs → P x)
every_decides f P each xs = Decides-like (list_all f xs) (all_mem P xs) (mem_all P xs) (Decides-by_and f P (list_all f) each refl (λ _ _. refl) xs)

-- what a filter keeps
pub kept_from : {A : Type 0} (test : A → Bool) (xs : List A) (x : A) → Memᴰ x (filter test xs) → Memᴰ x xs × (test x ≡ true)
kept_from test [] x i = elim i [ ]
kept_from {A} test (y ∷ xs) x i = go (λ j. kept_from test xs x j) (cases_Bool (test y))
  where
    Got : List A → Type 0
    Got ys = Memᴰ x ys × (test x ≡ true)

    deeper : Got xs → Got (y ∷ xs)
    deeper r = (Memᴰ.tail r.0, r.1)

    one : (Memᴰ x (filter test xs) → Got xs) → test y ≡ true → Memᴰ x (y ∷ filter test xs) → Got (y ∷ xs)
    one below t (Memᴰ.head q) = (Memᴰ.head q, ap test q ∙ t)
    one below t (Memᴰ.tail j) = deeper (below j)

    go : (Memᴰ x (filter test xs) → Got xs) → (test y ≡ true) ⊎ (test y ≡ false) → Got (y ∷ xs)
    go below (inl t) = one below t (subst (Memᴰ x) (cond-true (test y) (y ∷ filter test xs) (filter test xs) t) i)
    go below (inr t) = deeper (below (subst (Memᴰ x) (cond-false (test y) (y ∷ filter test xs) (filter test xs) t) i))

pub kept_to : {A : Type 0} (test : A → Bool) (xs : List A) (x : A) → Memᴰ x xs → test x ≡ true → Memᴰ x (filter test xs)
kept_to test [] x i t = elim i [ ]
kept_to test (y ∷ xs) x (Memᴰ.head q) t =
    subst (Memᴰ x) (sym (cond-true (test y) (y ∷ filter test xs) (filter test xs) (ap test (sym q) ∙ t))) (Memᴰ.head q)
kept_to test (y ∷ xs) x (Memᴰ.tail i) t = go (test y) (kept_to test xs x i t)
  where
    go : (b : Bool) → Memᴰ x (filter test xs) → Memᴰ x (cond b (y ∷ filter test xs) (filter test xs))
    go true r = Memᴰ.tail r
    go false r = r
