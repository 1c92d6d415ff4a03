-- More numbers than places: two stand in one place.
use Rattle.std.proofs.Common.{◌≡◌, ℕ, zero, suc, ◌<◌, cond, eqb, ◌⊎◌, sym, ap, ◌∙◌, inl, inr, arith}
use Rattle.std.proofs.lemmas.Bool.{cases_eq, eq-eqb, ne_eqb, cond-true, cond-false}

abbrev pub Clash : ℕ → (ℕ → ℕ) → Type 0
Clash n f = (i : ℕ) × (j : ℕ) × (i < j) × (j < n) × (f i ≡ f j)

meets : (f : ℕ → ℕ) (top n : ℕ) → ((i : ℕ) × (i < n) × (f i ≡ f top)) ⊎ ((i : ℕ) → i < n → f i ≡ f top → ⊥)
meets f top zero = inr (λ i h. absurd (omega arith))
meets f top (suc n) = go (cases_eq (f n) (f top)) (meets f top n)
  where
    none : (f n ≡ f top → ⊥) → ((i : ℕ) → i < n → f i ≡ f top → ⊥) → (i : ℕ) → i < suc n → f i ≡ f top → ⊥
    none a b i h e = pick (cases_eq i n)
      where
        pick : (i ≡ n) ⊎ (i ≡ n → ⊥) → ⊥
        pick (inl q) = a (ap f (sym q) ∙ e)
        pick (inr q) = b i (omega arith) e

    go : (f n ≡ f top) ⊎ (f n ≡ f top → ⊥) → ((i : ℕ) × (i < n) × (f i ≡ f top)) ⊎ ((i : ℕ) → i < n → f i ≡ f top → ⊥) → ((i : ℕ) × (i < suc n) × (f i ≡ f top)) ⊎ ((i : ℕ) → i < suc n → f i ≡ f top → ⊥)
    go (inl e) r = inl (n, omega arith, e)
    go (inr a) (inl r) = inl (r.0, omega (arith, r.1), r.2)
    go (inr a) (inr b) = inr (none a b)

-- what stands in the last place is moved to where the last number stands
abbrev moved : ℕ → (ℕ → ℕ) → ℕ → ℕ
moved n f i = cond (eqb (f i) n) (f (suc n)) (f i)

pub pigeons : (n : ℕ) (f : ℕ → ℕ) → ((i : ℕ) → i < suc n → f i < n) → Clash (suc n) f
pigeons zero f h = absurd (let z = h 0 (omega arith) in omega arith)
pigeons (suc n) f h = go (λ g k. pigeons n g k) (meets f (suc n) (suc n))
  where
    at_top : (i : ℕ) → f i ≡ n → moved n f i ≡ f (suc n)
    at_top i e = cond-true (eqb (f i) n) (f (suc n)) (f i) (eq-eqb (f i) n e)

    elsewhere : (i : ℕ) → (f i ≡ n → ⊥) → moved n f i ≡ f i
    elsewhere i e = cond-false (eqb (f i) n) (f (suc n)) (f i) (ne_eqb (f i) n e)

    small : ((i : ℕ) → i < suc n → f i ≡ f (suc n) → ⊥) → (i : ℕ) → i < suc n → moved n f i < n
    small never i l = pick (cases_eq (f i) n)
      where
        pick : (f i ≡ n) ⊎ (f i ≡ n → ⊥) → moved n f i < n
        pick (inl e) = apart (cases_eq (f (suc n)) n)
          where
            apart : (f (suc n) ≡ n) ⊎ (f (suc n) ≡ n → ⊥) → moved n f i < n
            apart (inl q) = absurd (never i l (e ∙ sym q))
            apart (inr q) = omega (arith, at_top i e, h (suc n) (omega arith), q)
        pick (inr e) = omega (arith, elsewhere i e, h i (omega arith), e)

    back : ((i : ℕ) → i < suc n → f i ≡ f (suc n) → ⊥) → Clash (suc n) (moved n f) → Clash (suc (suc n)) f
    back never c = pick (cases_eq (f c.0) n) (cases_eq (f c.1) n)
      where
        pick : (f c.0 ≡ n) ⊎ (f c.0 ≡ n → ⊥) → (f c.1 ≡ n) ⊎ (f c.1 ≡ n → ⊥) → Clash (suc (suc n)) f
        pick (inl p) (inl q) = (c.0, c.1, c.2, omega (arith, c.3), p ∙ sym q)
        pick (inl p) (inr q) = absurd (never c.1 c.3 (sym (elsewhere c.1 q) ∙ sym c.4 ∙ at_top c.0 p))
        pick (inr p) (inl q) = absurd (never c.0 (omega (arith, c.2, c.3)) (sym (elsewhere c.0 p) ∙ c.4 ∙ at_top c.1 q))
        pick (inr p) (inr q) = (c.0, c.1, c.2, omega (arith, c.3), sym (elsewhere c.0 p) ∙ c.4 ∙ elsewhere c.1 q)

    go : ((k : ℕ → ℕ) → ((i : ℕ) → i < suc n → k i < n) → Clash (suc n) k) → ((i : ℕ) × (i < suc n) × (f i ≡ f (suc n))) ⊎ ((i : ℕ) → i < suc n → f i ≡ f (suc n) → ⊥) → Clash (suc (suc n)) f
    go rec (inl r) = (r.0, suc n, omega (arith, r.1), omega arith, r.2)
    go rec (inr never) = back never (rec (moved n f) (small never))
