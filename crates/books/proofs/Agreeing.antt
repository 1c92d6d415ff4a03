-- A set gives each question one answer.
use Rattle.std.proofs.Common.{◌≡◌, ℕ, Bool, true, false, eqb, Some, None, Option, refl, ap, subst, ⊎_elim, arith}
use Rattle.std.proofs.lemmas.Bool.{cases_lt, eqb-true, eqb-false}
use Rattle.book_rows.specs.Nexts.{Next, LeastFrom}
use Rattle.book_rows.specs.Sets.{Holds, Same}
use Rattle.books.proofs.Nexts.{next_same}

pub holds_no : (P : ℕ → Type 0) (v : ℕ) (a : Bool) → (P v → ⊥) → Holds P v a → a ≡ false
holds_no P v true h p = absurd (h p)
holds_no P v false h p = refl

pub holds_yes : (P : ℕ → Type 0) (v : ℕ) (a : Bool) → P v → Holds P v a → a ≡ true
holds_yes P v true h p = refl
holds_yes P v false h p = absurd (p h)

pub holds_once : (P : ℕ → Type 0) (v : ℕ) (a b : Bool) → Holds P v a → Holds P v b → a ≡ b
holds_once P v a true p q = holds_yes P v a q p
holds_once P v a false p q = holds_no P v a q p

least_once : (P : ℕ → Type 0) (v w x : ℕ) → LeastFrom P v w → LeastFrom P v x → w ≡ x
least_once P v w x p q =
    ⊎_elim (λ less. absurd (q.least w p.above less p.within))
    (λ more. ⊎_elim (λ less. absurd (p.least x q.above less q.within)) (λ same. omega arith) (cases_lt x w))
    (cases_lt w x)

pub next_once : (P : ℕ → Type 0) (v : ℕ) (a b : Option ℕ) → Next P v a → Next P v b → a ≡ b
next_once P v None None p q = refl
next_once P v None (Some x) p q = absurd (p x q.above q.within)
next_once P v (Some w) None p q = absurd (q w p.above p.within)
next_once P v (Some w) (Some x) p q = ap Some (least_once P v w x p q)

-- two sets with the same values give the same answers
module _ (P Q : ℕ → Type 0) (same : (u : ℕ) → Same (P u) (Q u)) where
  pub next_by : (v : ℕ) (a b : Option ℕ) → Next P v a → Next Q v b → a ≡ b
  next_by v a b n m = next_once Q v a b (next_same P Q (λ u. (same u).0) (λ u. (same u).1) v a n) m

  pub holds_by : (v : ℕ) (a b : Bool) → Holds P v a → Holds Q v b → a ≡ b
  holds_by v true true p q = refl
  holds_by v false false p q = refl
  holds_by v true false p q = absurd (q ((same v).0 p))
  holds_by v false true p q = absurd (p ((same v).1 q))

-- `holds` by way of `next`
pub holds_from_next : (P : ℕ → Type 0) (v w : ℕ) → Next P v (Some w) → Holds P v (eqb w v)
holds_from_next P v w n = told (eqb w v) refl
  where
    told : (a : Bool) → eqb w v ≡ a → Holds P v a
    told true t = subst P (eqb-true w v t) n.within
    told false f = λ p. n.least v (omega arith) (let other = eqb-false w v f in let h = n.above in omega (arith, other, h)) p
