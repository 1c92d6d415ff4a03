-- Laws of the least number of which a property holds.
use Rattle.std.proofs.Common.{◌≡◌, ℕ, ◌+◌, ◌<◌, ◌≤◌, ltb, min, ◌⊎◌, get_or, Some, None, Option, sym, refl, ap, ◌∙◌, subst, inl, inr, ⊎_elim, arith}
use Rattle.std.proofs.lemmas.Bool.{cases_lt, lt-ltb, cond-true}
use Rattle.parting.specs.declared.local.LocalSet.{LocalSet}
use Rattle.parting.specs.declared.local.Move.{Move}
use Rattle.runs.specs.Laws.{Least}
use Rattle.runs.specs.Run.{Book}
use Rattle.session.specs.Chances.{MoveAt}
use Rattle.session.specs.Earliest.{SomeMove, sooner_of}
use Rattle.session.specs.Prepared.{move_in_set}

-- the least of either of two is the lower of their leasts
pub least_either : (P Q R : ℕ → Type 0) (low high : ℕ) → ((u : ℕ) → P u → R u) → ((u : ℕ) → Q u → R u) → ((u : ℕ) → R u → P u ⊎ Q u) →
    (a b : Option ℕ) → Least P low high a → Least Q low high b → Least R low high (sooner_of a b)
least_either P Q R low high f g split None None l k = λ u x y r. ⊎_elim (l u x y) (k u x y) (split u r)
least_either P Q R low high f g split None (Some b) l k =
    (k.0, k.1, g b k.2, λ u x y r. ⊎_elim (l u x (omega (arith, k.1))) (k.3 u x y) (split u r))
least_either P Q R low high f g split (Some a) None l k =
    (l.0, l.1, f a l.2, λ u x y r. ⊎_elim (l.3 u x y) (k u x (omega (arith, l.1))) (split u r))
least_either P Q R low high f g split (Some a) (Some b) l k = go (cases_lt a b)
  where
    go : (a < b) ⊎ (b ≤ a) → Least R low high (Some (min a b))
    go (inl h) =
        let e : a ≡ min a b = omega arith in
        subst (λ (n : ℕ). Least R low high (Some n)) e (l.0, l.1, f a l.2, λ u x y r. ⊎_elim (l.3 u x y) (k.3 u x (omega arith)) (split u r))
    go (inr h) =
        let e : b ≡ min a b = omega arith in
        subst (λ (n : ℕ). Least R low high (Some n)) e (k.0, k.1, g b k.2, λ u x y r. ⊎_elim (l.3 u x (omega arith)) (k.3 u x y) (split u r))

-- below 32 a label's move is read off the table
pub move_read : (s : LocalSet) (label : ℕ) → label < 32 → move_in_set s label ≡ get_or s.moves label None
move_read s label h = cond-true (ltb label 32) (get_or s.moves label None) None (lt-ltb label 32 h)

sooner_none : (o : Option ℕ) → o ≡ sooner_of o None
sooner_none None = refl
sooner_none (Some a) = refl

module _ (book : Book) (s : LocalSet) (since low high : ℕ) where
  -- before the first label there is none
  pub moves_none : Least (SomeMove book s since 0) low high None
  moves_none = λ u x y p. omega (arith, p.2)

  at_label : (label u : ℕ) (o : Option Move) → move_in_set s label ≡ o → MoveAt book o since u → SomeMove book s since (label + 1) u
  at_label label u None is h = absurd h
  at_label label u (Some to) is h = (label, to, omega arith, is, h)

  -- one label more adds its row, where it has a move
  pub moves_more : (label : ℕ) (o : Option Move) (best next answer : Option ℕ) → label < 32 → o ≡ get_or s.moves label None → answer ≡ sooner_of best next → Least (SomeMove book s since label) low high best →
      Least (MoveAt book o since) low high next → Least (SomeMove book s since (label + 1)) low high answer
  moves_more label o best next answer small is e l k =
      subst (λ (z : Option ℕ). Least (SomeMove book s since (label + 1)) low high z) (sym e)
      (least_either (SomeMove book s since label) (MoveAt book o since) (SomeMove book s since (label + 1)) low high
      (λ u p. (p.0, p.1, omega (arith, p.2), p.3, p.4))
      (λ u r. at_label label u o (move_read s label small ∙ sym is) r)
      (λ u p. split u p (cases_lt p.0 label)) best next l k)
    where
      split : (u : ℕ) (p : SomeMove book s since (label + 1) u) → (p.0 < label) ⊎ (label ≤ p.0) → SomeMove book s since label u ⊎ MoveAt book o since u
      split u p (inl h) = inl (p.0, p.1, h, p.3, p.4)
      split u p (inr h) =
          let at : p.0 ≡ label = omega (arith, p.2) in
          let same : Some p.1 ≡ o = sym p.3 ∙ ap (move_in_set s) at ∙ move_read s label small ∙ sym is in
          inr (subst (λ (z : Option Move). MoveAt book z since u) same p.4)

  -- a label without a move adds nothing
  pub moves_skip : (label : ℕ) (best answer : Option ℕ) → label < 32 → None ≡ get_or s.moves label None → answer ≡ best → Least (SomeMove book s since label) low high best → Least (SomeMove book s since (label + 1)) low high answer
  moves_skip label best answer small none e l = moves_more label None best None answer small none (e ∙ sooner_none best) l (λ u x y m. m)
