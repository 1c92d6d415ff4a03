-- One more set among those found, and in the queue.
use Rattle.std.proofs.Common.{◌≡◌, ℕ, suc, ◌<◌, ◌≤◌, Bool, true, false, ◌⊎◌, inl, inr, List, [], ◌∷◌, ◌++◌, length, drop, is_ok, Some, None, Option, Ok, Err, Result, sym, refl, ap, ◌∙◌, arith, MatchResult}
use Rattle.std.specs.List.{list_any, position_or_len}
use Rattle.std.specs.Option.{unwrap_or}
use Rattle.std.proofs.lemmas.List.{drop-append-le}
use Rattle.std.proofs.lemmas.Bool.{cases_eq, cases_lt, cond-true, cond-false, lt-ltb, le-ltb, eq-eqb}
use lib.Dec.{eqb, ltb}
use mathlib.Core.Bool.{cond}
use Rattle.queue.specs.declared.queue.Queue.{Queue}
use Rattle.queue.specs.Held.{inside, slots_of}
use Rattle.queue.proofs.Rings.{length-held}
use Rattle.parting.specs.Family.{position, outcome, entered}

-- where a set stands, by the library's tests
pub position_known : (mask : ℕ) (sets : List ℕ) → list_any (λ x. eqb x mask) sets ≡ true → position mask sets < length sets
position_known mask [] e = cc
position_known mask (x ∷ xs) e = go (eqb x mask) refl (λ k. position_known mask xs k)
  where
    go : (b : Bool) → eqb x mask ≡ b → (list_any (λ y. eqb y mask) xs ≡ true → position mask xs < length xs) → position mask (x ∷ xs) < length (x ∷ xs)
    go true q rec = omega (arith, cond-true (eqb x mask) 0 (suc (position mask xs)) q)
    go false q rec =
        let more : list_any (λ y. eqb y mask) xs ≡ true = rw q at e in
        omega (arith, cond-false (eqb x mask) 0 (suc (position mask xs)) q, rec more)

pub position_new : (mask : ℕ) (sets : List ℕ) → list_any (λ x. eqb x mask) sets ≡ false → length sets ≤ position mask sets
position_new mask [] e = omega arith
position_new mask (x ∷ xs) e = go (eqb x mask) refl (λ k. position_new mask xs k)
  where
    go : (b : Bool) → eqb x mask ≡ b → (list_any (λ y. eqb y mask) xs ≡ false → length xs ≤ position mask xs) → length (x ∷ xs) ≤ position mask (x ∷ xs)
    go true q rec = let z : true ≡ false = rw q at e in cc
    go false q rec =
        let more : list_any (λ y. eqb y mask) xs ≡ false = rw q at e in
        omega (arith, cond-false (eqb x mask) 0 (suc (position mask xs)) q, rec more)

pub position_is : (mask : ℕ) (sets : List ℕ) → position_or_len (λ x. eqb x mask) sets ≡ position mask sets
position_is mask [] = refl
position_is mask (x ∷ xs) = go (eqb x mask) refl (position_is mask xs)
  where
    go : (b : Bool) → eqb x mask ≡ b → position_or_len (λ y. eqb y mask) xs ≡ position mask xs → position_or_len (λ y. eqb y mask) (x ∷ xs) ≡ position mask (x ∷ xs)
    go true q rec = rw q
    go false q rec = rw q (omega (arith, rec))

pub position_bound : (mask : ℕ) (sets : List ℕ) → position mask sets ≤ length sets
position_bound mask [] = omega arith
position_bound mask (x ∷ xs) = go (eqb x mask) refl (position_bound mask xs)
  where
    go : (b : Bool) → eqb x mask ≡ b → position mask xs ≤ length xs → position mask (x ∷ xs) ≤ length (x ∷ xs)
    go true q rec = omega (arith, cond-true (eqb x mask) 0 (suc (position mask xs)) q)
    go false q rec = omega (arith, cond-false (eqb x mask) 0 (suc (position mask xs)) q, rec)

pub position_by : (mask : ℕ) (sets : List ℕ) (r : Option ℕ)
    → r ≡ cond (ltb (position_or_len (λ x. eqb x mask) sets) (length sets)) (Some (position_or_len (λ x. eqb x mask) sets)) None
    → unwrap_or r (length sets) ≡ position mask sets
position_by mask sets r e = go (position_or_len (λ x. eqb x mask) sets) (position_is mask sets) e (cases_lt (position mask sets) (length sets))
  where
    go : (at : ℕ) → at ≡ position mask sets → r ≡ cond (ltb at (length sets)) (Some at) None → (position mask sets < length sets) ⊎ (length sets ≤ position mask sets) → unwrap_or r (length sets) ≡ position mask sets
    go at same k (inl h) = ap (λ o. unwrap_or o (length sets)) (k ∙ cond-true _ _ _ (lt-ltb at (length sets) (omega (arith, same)))) ∙ same
    go at same k (inr h) = ap (λ o. unwrap_or o (length sets)) (k ∙ cond-false _ _ _ (le-ltb at (length sets) (omega (arith, same)))) ∙ (omega (arith, position_bound mask sets))

pub under_full : (n : ℕ) → n ≤ 32 → eqb n 32 ≡ false → n < 32
under_full n h e = go (cases_eq n 32)
  where
    go : (n ≡ 32) ⊎ (n ≡ 32 → ⊥) → n < 32
    go (inl q) = let t = eq-eqb n 32 q in let z : true ≡ false = sym t ∙ e in cc
    go (inr u) = omega arith

pub outcome_ok : {T E : Type 0} (r : Result T E) (found : List ℕ) → is_ok r ≡ true → outcome r found ≡ Some found
outcome_ok (Ok x) found e = refl
outcome_ok (Err x) found e = cc

module _ (sets : List ℕ) (mask : ℕ) where
  pub entered_known : position mask sets < length sets → entered sets mask ≡ Some sets
  unfolding entered
  entered_known h = cond-true _ _ _ (lt-ltb _ _ h)

  pub entered_full : length sets ≤ position mask sets → 32 ≤ length sets → entered sets mask ≡ None
  unfolding entered
  entered_full h k = cond-false _ _ _ (le-ltb _ _ h) ∙ cond-false _ _ _ (le-ltb _ _ k)

  pub entered_new : length sets ≤ position mask sets → length sets < 32 → entered sets mask ≡ Some (sets ++ mask ∷ [])
  unfolding entered
  entered_new h k = cond-false _ _ _ (le-ltb _ _ h) ∙ cond-true _ _ _ (lt-ltb _ _ k)

-- a queue that has room takes what is pushed
pub pushed : {T : Type 0} (r : Result T ℕ) (q q' : Queue ℕ) (x : ℕ) → q.count < length (slots_of q)
    → MatchResult r (λ _. inside q' ≡ inside q ++ x ∷ []) (λ y. (y ≡ x) × (q.count ≡ length (slots_of q)) × (slots_of q' ≡ slots_of q) × (q'.count ≡ q.count))
    → (is_ok r ≡ true) × (inside q' ≡ inside q ++ x ∷ [])
pushed (Ok u) q q' x h held = (refl, held)
pushed (Err y) q q' x h held = absurd (omega (arith, held.1))

pub held_count : (q : Queue ℕ) → length (inside q) ≡ q.count
held_count q = length-held q.slots.now q.first q.count q.begins q.fits

-- the queue holds what was found from set k on
pub queued_more : (k mask : ℕ) (found more q q' : List ℕ) → k ≤ length found → q ≡ drop k found → more ≡ found ++ mask ∷ [] → q' ≡ q ++ mask ∷ [] → q' ≡ drop k more
queued_more k mask found more q q' h is added pushed =
    pushed ∙ ap (λ xs. xs ++ mask ∷ []) is ∙ sym (drop-append-le k found (mask ∷ []) h) ∙ ap (drop k) (sym added)
