-- An array made by a function of the index.
use Rattle.std.proofs.Common.{◌≡◌, ℕ, zero, suc, ◌+◌, ◌<◌, ◌≤◌, ◌⊎◌, inl, inr, List, get_or, sym, ap, ◌∙◌, subst, arith}
use Rattle.std.proofs.lemmas.Bool.{cases_eq}
use Rattle.std.specs.Array.{IsFromFnResultFrom}
use Rattle.std.specs.Fn.{Called}
use denote.Param.Members.{Mut}

-- where each call leaves the closure as it was, and gives what h says
module _ {F B : Type 0} (g : Mut F (ℕ × Unit {0}) B) (h : ℕ → B) (f : F) (is : (i : ℕ) (y : B) (q : F) → Called g f (i, tt) y q → (q ≡ f) × (y ≡ h i)) where
  pub from_fn_at : (ys : List B) (i n : ℕ) → IsFromFnResultFrom g f ys i n → (k : ℕ) (d : B) → i ≤ k → k < i + n → get_or ys k d ≡ h k
  from_fn_at ys i zero r k d a b = absurd (omega arith)
  from_fn_at ys i (suc n) r k d a b = go (cases_eq k i) (λ u. from_fn_at ys (i + 1) n (subst (λ (q : F). IsFromFnResultFrom g q ys (i + 1) n) (is i r.1 r.0 r.3).0 r.4) k d (omega arith) (omega arith))
    where
      go : (k ≡ i) ⊎ (k ≡ i → ⊥) → ((k ≡ i → ⊥) → get_or ys k d ≡ h k) → get_or ys k d ≡ h k
      go (inl q) rec = ap (λ m. get_or ys m d) q ∙ r.2.1 d ∙ (is i r.1 r.0 r.3).1 ∙ ap h (sym q)
      go (inr u) rec = rec u
