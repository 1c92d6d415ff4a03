-- Laws of what a ring holds: its length, and what pushing and popping do.
use Rattle.std.proofs.Common.{◌≡◌, ℕ, zero, suc, ◌+◌, ◌-◌, ◌<◌, ◌≤◌, ◌≢◌, ◌⊎◌, List, [], ◌∷◌, ◌++◌, length, get_or, take, drop, set, sym, refl, ap, ◌∙◌, ⊎_elim, arith, length-append, length-drop, length-set, length-take-le, get_or-drop, get_or-set_other, get_or-take, get_or-set_same}
use Rattle.std.proofs.lemmas.Bool.{cases_lt}
use Rattle.std.proofs.lemmas.List.{same_lists, get_or_default, get_or_append_left, get_or-append_right, get_or_push, length_push, drop_more}
use Rattle.queue.specs.Ring.{held}

module _ {X : Type 0} (s : List X) (f c : ℕ) where
  pub length-held : f ≤ length s - 1 → c ≤ length s → length (held s f c) ≡ c
  unfolding held
  length-held hf hc = length-take-le c (drop f (s ++ s)) (simp (length-drop, length-append) (omega arith))

  pub held_none : c ≡ 0 → held s f c ≡ []
  unfolding held
  held_none e = ap (λ n. take n (drop f (s ++ s))) e

  pub held_low : (k : ℕ) (d : X) → k < c → f + k < length s → get_or (held s f c) k d ≡ get_or s (f + k) d
  unfolding held
  held_low k d hk hl = get_or-take c (drop f (s ++ s)) k d hk ∙ get_or-drop f (s ++ s) k d ∙ get_or_append_left s s d (f + k) hl

  pub held_high : (k : ℕ) (d : X) → k < c → length s ≤ f + k → get_or (held s f c) k d ≡ get_or s (f + k - length s) d
  unfolding held
  held_high k d hk hl = get_or-take c (drop f (s ++ s)) k d hk ∙ get_or-drop f (s ++ s) k d ∙ get_or-append_right s s (length s) (f + k) d refl hl

-- where the next item goes
abbrev pub Next : ℕ → ℕ → ℕ → Type 0
Next n i at = ((i < n) × (at ≡ i)) ⊎ ((n ≤ i) × (at + n ≡ i))

module _ {X : Type 0} (s : List X) (f c at : ℕ) (x : X) (hf : f < length s) (hc : c < length s) (nx : Next (length s) (f + c) at) where
  at_within : at < length s
  at_within = ⊎_elim (λ p. omega (arith, p.0, p.1)) (λ p. omega (arith, p.0, p.1)) nx

  len : length (held (set s at x) f (c + 1)) ≡ length (held s f c ++ x ∷ [])
  len =
      let l = length-set s at x in
      let h₁ : f ≤ length (set s at x) - 1 = omega (arith, l) in
      let h₂ : c + 1 ≤ length (set s at x) = omega (arith, l) in
      let h₃ : c ≤ length s = omega arith in
      length-held (set s at x) f (c + 1) h₁ h₂ ∙ sym (length_push (held s f c) x ∙ ap (λ n. n + 1) (length-held s f c (omega arith) h₃))

  -- what stands at k, before and after
  old : (k : ℕ) (d : X) → k < c → get_or (held (set s at x) f (c + 1)) k d ≡ get_or (held s f c) k d
  old k d hk =
      let l = length-set s at x in
      let hk₁ : k < c + 1 = omega arith in
      ⊎_elim
      (λ low. let low₁ : f + k < length (set s at x) = omega (arith, l, low) in
      let ne : f + k ≢ at = ⊎_elim (λ p e. omega (arith, p.0, p.1, e)) (λ p e. omega (arith, p.0, p.1, e)) nx in
      held_low (set s at x) f (c + 1) k d hk₁ low₁ ∙ get_or-set_other s at (f + k) x d ne ∙ sym (held_low s f c k d hk low))
      (λ high. let high₁ : length (set s at x) ≤ f + k = omega (arith, l, high) in
      let ne : f + k - length s ≢ at = ⊎_elim (λ p e. omega (arith, p.0, p.1, e, high)) (λ p e. omega (arith, p.0, p.1, e, high)) nx in
      held_high (set s at x) f (c + 1) k d hk₁ high₁ ∙ ap (λ n. get_or (set s at x) (f + k - n) d) l ∙ get_or-set_other s at (f + k - length s) x d ne ∙ sym (held_high s f c k d hk high))
      (cases_lt (f + k) (length s))

  new : (d : X) → get_or (held (set s at x) f (c + 1)) c d ≡ x
  new d =
      let l = length-set s at x in
      let hk₁ : c < c + 1 = omega arith in
      ⊎_elim
      (λ p. let low₁ : f + c < length (set s at x) = omega (arith, l, p.0) in
      held_low (set s at x) f (c + 1) c d hk₁ low₁ ∙ ap (λ n. get_or (set s at x) n d) (sym p.1) ∙ get_or-set_same s at x d at_within)
      (λ p. let high₁ : length (set s at x) ≤ f + c = omega (arith, l, p.0) in
      let e : f + c - length (set s at x) ≡ at = omega (arith, l, p.1) in
      held_high (set s at x) f (c + 1) c d hk₁ high₁ ∙ ap (λ n. get_or (set s at x) n d) e ∙ get_or-set_same s at x d at_within)
      nx

  pub held_push : held (set s at x) f (c + 1) ≡ held s f c ++ x ∷ []
  held_push =
      let lh : length (held s f c) ≡ c = let h : c ≤ length s = omega arith in length-held s f c (omega arith) h in
      same_lists _ _ len (λ k d hk.
      ⊎_elim
      (λ below. let b : k < length (held s f c) = omega (arith, lh, below) in old k d below ∙ sym (get_or_append_left (held s f c) (x ∷ []) d k b))
      (λ above. let e : c ≡ k = let hk' : k < length (held s f c ++ x ∷ []) = rw len at hk in omega (arith, lh, above, hk', length_push (held s f c) x) in
      ap (λ n. get_or (held (set s at x) f (c + 1)) n d) (sym e) ∙ new d ∙ sym (get_or_push (held s f c) x d k (lh ∙ e)))
      (cases_lt k c))

-- the oldest item, and where the next one begins
module _ {X : Type 0} (s : List X) (f c g : ℕ) (x : X) (hf : f < length s) (hc : c < length s) (hx : x ≡ get_or s f x) (nx : Next (length s) (f + 1) g) where
  g_within : g < length s
  g_within = ⊎_elim (λ p. omega (arith, p.0, p.1)) (λ p. omega (arith, p.0, p.1)) nx

  at_place : (k : ℕ) (d : X) → k < c + 1 → get_or (held s f (c + 1)) k d ≡ get_or (x ∷ held s g c) k d
  at_place zero d hk =
      let low : f + 0 < length s = omega arith in
      let e : f + 0 ≡ f = omega arith in
      held_low s f (c + 1) 0 d hk low ∙ ap (λ n. get_or s n d) e ∙ get_or_default s f d x hf ∙ sym hx
  at_place (suc k) d hk =
      let hk₁ : k < c = omega arith in
      ⊎_elim
      (λ low. let low₁ : g + k < length s = ⊎_elim (λ p. omega (arith, p.0, p.1, low)) (λ p. omega (arith, p.0, p.1, low, hc)) nx in
      let e : f + suc k ≡ g + k = ⊎_elim (λ p. omega (arith, p.0, p.1, low)) (λ p. omega (arith, p.0, p.1, low, hc)) nx in
      held_low s f (c + 1) (suc k) d hk low ∙ ap (λ n. get_or s n d) e ∙ sym (held_low s g c k d hk₁ low₁))
      (λ high.
      ⊎_elim
      (λ p. let high₁ : length s ≤ g + k = omega (arith, p.0, p.1, high) in
      let e : f + suc k ≡ g + k = omega (arith, p.1) in
      held_high s f (c + 1) (suc k) d hk high ∙ ap (λ n. get_or s (n - length s) d) e ∙ sym (held_high s g c k d hk₁ high₁))
      (λ p. let low₁ : g + k < length s = omega (arith, p.0, p.1, hc, hf) in
      let e : f + suc k - length s ≡ g + k = omega (arith, p.0, p.1, hf) in
      held_high s f (c + 1) (suc k) d hk high ∙ ap (λ n. get_or s n d) e ∙ sym (held_low s g c k d hk₁ low₁))
      nx)
      (cases_lt (f + suc k) (length s))

  pub held_pop : held s f (c + 1) ≡ x ∷ held s g c
  held_pop =
      let hc₁ : c + 1 ≤ length s = omega arith in
      let hc₂ : c ≤ length s = omega arith in
      let l₁ = length-held s f (c + 1) (omega arith) hc₁ in
      let l₂ = length-held s g c (let w = g_within in omega arith) hc₂ in
      let l : length (held s f (c + 1)) ≡ length (x ∷ held s g c) = l₁ ∙ (let e : c + 1 ≡ suc (length (held s g c)) = omega (arith, l₂) in e) in
      same_lists _ _ l (λ k d hk. at_place k d (rw l₁ at hk))

pub held_oldest : {X : Type 0} (s : List X) (f c : ℕ) (x : X) → f < length s → c ≤ length s → 0 < c → x ≡ get_or s f x → held s f c ≡ x ∷ drop 1 (held s f c)
held_oldest s f c x hf hc pos is =
    let l = length-held s f c (omega arith) hc in
    let some : 0 < length (held s f c) = omega (arith, l) in
    let low : f + 0 < length s = omega arith in
    let e : f + 0 ≡ f = omega arith in
    drop_more (held s f c) 0 x some
    ∙ ap (λ y. y ∷ drop (0 + 1) (held s f c)) (held_low s f c 0 x pos low ∙ ap (λ n. get_or s n x) e ∙ sym is)

-- what is known of a ring from its oldest item
module _ {X : Type 0} (s : List X) (f c : ℕ) (x : X) (hf : f ≤ length s - 1) (hc : c ≤ length s) (e : held s f c ≡ x ∷ drop 1 (held s f c)) where
  pub some_held : 0 < c
  some_held = let n : length (held s f c) ≡ suc (length (drop 1 (held s f c))) = ap length e in omega (arith, n, length-held s f c hf hc)

  pub oldest_slot : x ≡ get_or s f x
  oldest_slot =
      let low : f + 0 < length s = omega (arith, some_held) in
      let at : f + 0 ≡ f = omega arith in
      sym (ap (λ l. get_or l 0 x) e) ∙ held_low s f c 0 x some_held low ∙ ap (λ n. get_or s n x) at

-- for `using`, which takes no name with a dash
pub ruleset lengths = length-held
