-- A pass over the edges, and passes until nothing changes.
use Rattle.std.proofs.Common.{◌≡◌, ℕ, ◌^◌, ◌≤◌, Bool, true, false, cond, eqb, ◌⊎◌, List, [], ◌∷◌, sym, refl, ap, ◌∙◌, subst, inl, inr, arith}
use mathlib.Core.List.{Memᴰ}
use lib.Bits.{or_add_and}
use Rattle.std.proofs.lemmas.Nat.{and_le_r}
use Rattle.std.proofs.lemmas.Bool.{eq-eqb, eqb-true, cases_Bool, cond-true, cond-false, or_cases, or_left, or_right}
use Rattle.parting.specs.declared.edge.Edge.{Edge}
use Rattle.parting.specs.Masks.{has, add, In}
use Rattle.parting.specs.Spread.{Reach, along, spread, passed}
use Rattle.parting.proofs.Bits.{has_add}
use Rattle.parting.proofs.Same.{decided_same}
use Rattle.parting.proofs.Spreading.{Closed, reach_in, spread_decides}

pub add_grows : (k X : ℕ) → X ≤ add k X
unfolding add
add_grows k X = omega (arith, or_add_and X (2 ^ k), and_le_r X (2 ^ k))

abbrev step : ℕ → Edge → ℕ
step X e = cond (has X e.from) (add e.to X) X

step_grows : (X : ℕ) (e : Edge) → X ≤ step X e
step_grows X e = go (has X e.from)
  where
    go : (b : Bool) → X ≤ cond b (add e.to X) X
    go true = add_grows e.to X
    go false = omega arith

pub pass_grows : (X : ℕ) (es : List Edge) → X ≤ passed X es
pass_grows X [] = omega arith
pass_grows X (e ∷ es) = omega (arith, step_grows X e, pass_grows (step X e) es)

step_within : (X : ℕ) (e : Edge) (s : ℕ) → In X s → In (step X e) s
step_within X e s x = go (has X e.from)
  where
    go : (b : Bool) → In (cond b (add e.to X) X) s
    go true = has_add e.to X s ∙ or_right (eqb s e.to) (has X s) x
    go false = x

pub pass_within : (X : ℕ) (es : List Edge) (s : ℕ) → In X s → In (passed X es) s
pass_within X [] s x = x
pass_within X (e ∷ es) s x = pass_within (step X e) es s (step_within X e s x)

pub pass_closed : (X : ℕ) (es : List Edge) → passed X es ≡ X → Closed X es
pass_closed X [] q e i x = elim i [ ]
pass_closed X (f ∷ es) q e i x = go (λ j. pass_closed X es rest e j x) i
  where
    same : step X f ≡ X
    same = omega (arith, step_grows X f, pass_grows (step X f) es, q)

    rest : passed X es ≡ X
    rest = ap (λ Z. passed Z es) (sym same) ∙ q

    go : (Memᴰ e es → In X e.to) → Memᴰ e (f ∷ es) → In X e.to
    go below (Memᴰ.head r) =
        let at : In X f.from = subst (λ (z : Edge). In X z.from) r x in
        let added : add f.to X ≡ X = sym (cond-true (has X f.from) (add f.to X) X at) ∙ same in
        let to : In X f.to = ap (λ Z. has Z f.to) (sym added) ∙ has_add f.to X f.to ∙ or_left _ (has X f.to) (eq-eqb f.to f.to refl) in
        subst (λ (z : Edge). In X z.to) (sym r) to
    go below (Memᴰ.tail j) = below j

module _ (all : List Edge) (Y : ℕ → Type 0) where
  step_reach : (X : ℕ) (e : Edge) → Memᴰ e all → ((s : ℕ) → In X s → Reach all Y s) → (s : ℕ) → In (step X e) s → Reach all Y s
  step_reach X e i r s x = go (cases_Bool (has X e.from))
    where
      one : In X e.from → (eqb s e.to ≡ true) ⊎ (has X s ≡ true) → Reach all Y s
      one h (inl q) = along e i (r e.from h) (sym (eqb-true s e.to q))
      one h (inr q) = r s q

      go : (has X e.from ≡ true) ⊎ (has X e.from ≡ false) → Reach all Y s
      go (inl h) = one h (or_cases (eqb s e.to) (has X s) (sym (has_add e.to X s) ∙ subst (λ Z. In Z s) (cond-true (has X e.from) (add e.to X) X h) x))
      go (inr h) = r s (subst (λ Z. In Z s) (cond-false (has X e.from) (add e.to X) X h) x)

  pub pass_reach : (es : List Edge) → ((e : Edge) → Memᴰ e es → Memᴰ e all) → (X : ℕ) → ((s : ℕ) → In X s → Reach all Y s) → (s : ℕ) → In (passed X es) s → Reach all Y s
  pass_reach [] sub X r s x = r s x
  pass_reach (e ∷ es) sub X r s x = pass_reach es (λ f j. sub f (Memᴰ.tail j)) (step X e) (step_reach X e (sub e (Memᴰ.head refl)) r) s x

-- what the passes keep: the start is in, and all that is in can be reached
pub record Passing (es : List Edge) (from mask : ℕ) : Type 0 where
  pub holds : (s : ℕ) → In from s → In mask s
  pub reached : (s : ℕ) → In mask s → Reach es (In from) s

pub passing_more : (es : List Edge) (from mask : ℕ) → Passing es from mask → Passing es from (passed mask es)
passing_more es from mask p = record {
  holds = λ s x. pass_within mask es s (p.holds s x);
  reached = pass_reach es (In from) es (λ e i. i) mask p.reached;
}

-- once a pass changes nothing, all has been reached
pub passing_all : (es : List Edge) (from mask : ℕ) → Passing es from mask → passed mask es ≡ mask → mask ≡ spread es from
passing_all es from mask p q =
    decided_same mask (spread es from) (Reach es (In from))
    (λ s. (p.reached s, reach_in es (In from) mask (pass_closed mask es q) p.holds s))
    (λ s. spread_decides es from s)
