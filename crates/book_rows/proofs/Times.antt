-- Remainders by a period, and the next value of a slot.
use Rattle.std.proofs.Common.{◌≡◌, ℕ, ◌+◌, ◌-◌, ◌*◌, ◌/◌, ◌%◌, ◌^◌, ◌<◌, ◌≤◌, Some, None, Option, ap, ◌∙◌, ⊎_elim, add-mul, arith}
use Rattle.std.proofs.lemmas.Nat.{div-add-mod', mod-mul-add, mod_below}
use Rattle.std.proofs.lemmas.Bool.{cases_lt}
use Rattle.std.specs.Option.{SomeIff}
use Rattle.book_rows.specs.Nexts.{Next}
use Rattle.book_rows.specs.Slots.{InSlot}

-- a step that stays in the period
pub mod_near : (v p d : ℕ) → v % p + d < p → (v + d) % p ≡ v % p + d
mod_near v p d h =
    let e : v + d ≡ v / p * p + (v % p + d) = omega (arith, div-add-mod' v p) in
    ap (λ n. n % p) e ∙ mod-mul-add (v / p) p (v % p + d) h

-- a step into the following period
pub mod_far : (v p d : ℕ) → p ≤ v % p + d → v % p + d - p < p → (v + d) % p ≡ v % p + d - p
mod_far v p d h k =
    let e : v + d ≡ (v / p + 1) * p + (v % p + d - p) = omega (arith, div-add-mod' v p, add-mul (v / p) 1 p) in
    ap (λ n. n % p) e ∙ mod-mul-add (v / p + 1) p (v % p + d - p) k

-- the next value is v + d, or there is none where that passes 32 bits
pub next_is : (P : ℕ → Type 0) (v d : ℕ) (o : Option ℕ) → SomeIff o (v + d < 2 ^ 32) (v + d) → (v + d < 2 ^ 32 → P (v + d))
    → ((u : ℕ) → v ≤ u → u < v + d → P u → ⊥) → ((u : ℕ) → P u → u < 2 ^ 32) → Next P v o
next_is P v d None over here before small =
    λ u h p. ⊎_elim (λ below. before u h below p) (λ above. over (let s = small u p in omega (arith, s, above))) (cases_lt u (v + d))
next_is P v d (Some w) c here before small =
    let e = c.1 in
    record { above = omega (arith, e); within = rw e (here c.0); least = λ u h k p. before u h (omega (arith, e, k)) p }

module _ (period first width v : ℕ) (legal : (1 ≤ width) × (first + width ≤ period)) (o : Option ℕ) where
  -- the slot of this period is still to come
  pub before_slot : v % period < first → SomeIff o (v + (first - v % period) < 2 ^ 32) (v + (first - v % period)) → Next (InSlot period first width) v o
  before_slot low chk =
      let r = v % period in
      next_is (InSlot period first width) v (first - r) o chk
      (λ fits.
      let m = mod_near v period (first - r) (omega (arith, legal.0, legal.1, low)) in
      (fits, omega (arith, m, low), omega (arith, m, low, legal.0)))
      (λ u h k q.
      let e : u ≡ v + (u - v) = omega arith in
      let near : r + (u - v) < period = omega (arith, legal.0, legal.1, low, k, h) in
      let m : u % period ≡ r + (u - v) = ap (λ n. n % period) e ∙ mod_near v period (u - v) near in
      omega (arith, m, q.1, low, k, h))
      (λ u q. q.0)

  -- the slot of this period is over
  pub after_slot : first + width ≤ v % period → SomeIff o (v + (period - v % period + first) < 2 ^ 32) (v + (period - v % period + first)) → Next (InSlot period first width) v o
  after_slot high chk =
      let r = v % period in
      let d = period - r + first in
      let below : r < period = mod_below v period (omega (arith, legal.0, legal.1)) in
      next_is (InSlot period first width) v d o chk
      (λ fits.
      let m = mod_far v period d (omega (arith, below)) (omega (arith, below, legal.0, legal.1)) in
      (fits, omega (arith, m, below), omega (arith, m, below, legal.0)))
      (λ u h k q.
      let e : u ≡ v + (u - v) = omega arith in
      ⊎_elim
      (λ near.
      let m : u % period ≡ r + (u - v) = ap (λ n. n % period) e ∙ mod_near v period (u - v) near in
      omega (arith, m, q.2, high))
      (λ far.
      let less : r + (u - v) - period < period = omega (arith, below, legal.0, legal.1, k, h) in
      let m : u % period ≡ r + (u - v) - period = ap (λ n. n % period) e ∙ mod_far v period (u - v) far less in
      omega (arith, m, q.1, k, h, below))
      (cases_lt (r + (u - v)) period))
      (λ u q. q.0)
