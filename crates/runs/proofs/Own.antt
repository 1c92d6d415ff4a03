-- A role's own events, what it exchanges with a partner, and a list without a role's first event.
use Rattle.std.proofs.Common.{◌≡◌, ℕ, suc, ◌<◌, ◌≤◌, ◌&&◌, eqb, ◌≢◌, ◌⊎◌, List, [], ◌∷◌, ◌++◌, length, sym, refl, ap, ◌∙◌, subst, inl, inr, append_assoc, append-nil, arith}
use Rattle.std.specs.List.{AllByRecursion}
use Rattle.std.proofs.lemmas.Bool.{cond-true, cond-false, eq-eqb, ne_eqb, cases_eq, and_from, and_left, and_right}
use Rattle.protocol.specs.Actions.{Way, sends, receives}
use Rattle.events.specs.declared.event.Event.{Event}
use Rattle.runs.specs.Events.{direction_of, mine, own, along, exchanged}

pub list_cases : {A : Type 0} (xs : List A) → (xs ≡ []) ⊎ ((x : A) × (rest : List A) × (xs ≡ x ∷ rest))
list_cases [] = inl refl
list_cases (x ∷ xs) = inr (x, xs, refl)

pub mine_same : (m : ℕ) (e : Event) → m ≡ e.role → mine m e ≡ e ∷ []
unfolding mine
mine_same m e q = cond-true (eqb m e.role) (e ∷ []) [] (eq-eqb m e.role q)

pub mine_other : (m : ℕ) (e : Event) → m ≢ e.role → mine m e ≡ []
unfolding mine
mine_other m e n = cond-false (eqb m e.role) (e ∷ []) [] (ne_eqb m e.role n)

pub own_append : (m : ℕ) (xs ys : List Event) → own m (xs ++ ys) ≡ own m xs ++ own m ys
own_append m [] ys = refl
own_append m (x ∷ xs) ys = ap (λ (z : List Event). mine m x ++ z) (own_append m xs ys) ∙ sym (append_assoc (mine m x) (own m xs) (own m ys))

pub own_push_same : (m : ℕ) (es : List Event) (e : Event) → m ≡ e.role → own m (es ++ (e ∷ [])) ≡ own m es ++ (e ∷ [])
own_push_same m es e q = own_append m es (e ∷ []) ∙ ap (λ (z : List Event). own m es ++ (z ++ [])) (mine_same m e q)

pub own_push_other : (m : ℕ) (es : List Event) (e : Event) → m ≢ e.role → own m (es ++ (e ∷ [])) ≡ own m es
own_push_other m es e n = own_append m es (e ∷ []) ∙ ap (λ (z : List Event). own m es ++ (z ++ [])) (mine_other m e n) ∙ append-nil (own m es)

-- a role that is not on the sheet has no events
pub own_unknown : (n m : ℕ) → n ≤ m → (es : List Event) → AllByRecursion (λ e. e.role < n) es → own m es ≡ []
own_unknown n m l [] k = refl
own_unknown n m l (e ∷ es) k = rw (mine_other m e (λ q. let z : e.role < n = k.0 in omega arith)) (own_unknown n m l es k.1)

-- what goes that way with that partner
pub along_yes : (w : Way) (k : ℕ) (e : Event) → e.direction ≡ direction_of w → e.partner ≡ k → along w k e ≡ e ∷ []
unfolding along
along_yes w k e q t = cond-true (eqb (direction_of w) e.direction && eqb k e.partner) (e ∷ []) [] (and_from (eqb (direction_of w) e.direction) (eqb k e.partner) (eq-eqb (direction_of w) e.direction (sym q)) (eq-eqb k e.partner (sym t)))

pub along_direction : (w : Way) (k : ℕ) (e : Event) → e.direction ≢ direction_of w → along w k e ≡ []
unfolding along
along_direction w k e n = cond-false (eqb (direction_of w) e.direction && eqb k e.partner) (e ∷ []) [] (and_left (eqb (direction_of w) e.direction) (eqb k e.partner) (ne_eqb (direction_of w) e.direction (λ q. n (sym q))))

pub along_partner : (w : Way) (k : ℕ) (e : Event) → e.partner ≢ k → along w k e ≡ []
unfolding along
along_partner w k e n = cond-false (eqb (direction_of w) e.direction && eqb k e.partner) (e ∷ []) [] (and_right (eqb (direction_of w) e.direction) (eqb k e.partner) (ne_eqb k e.partner (λ q. n (sym q))))

-- an event that sends takes nothing, and the other way round
pub not_taking : (k : ℕ) (e : Event) → e.direction ≡ direction_of sends → along receives k e ≡ []
not_taking k e q = along_direction receives k e (λ t. omega arith)

pub not_sending : (k : ℕ) (e : Event) → e.direction ≡ direction_of receives → along sends k e ≡ []
not_sending k e q = along_direction sends k e (λ t. omega arith)

pub exchanged_append : (w : Way) (k : ℕ) (xs ys : List Event) → exchanged w k (xs ++ ys) ≡ exchanged w k xs ++ exchanged w k ys
exchanged_append w k [] ys = refl
exchanged_append w k (x ∷ xs) ys = ap (λ (z : List Event). along w k x ++ z) (exchanged_append w k xs ys) ∙ sym (append_assoc (along w k x) (exchanged w k xs) (exchanged w k ys))

-- a beginning of a list
abbrev pub Front : List Event → List Event → Type 0
Front front es = (back : List Event) × (es ≡ front ++ back)

-- es has one event more of role m than rest, the first of them
pub record Less (m : ℕ) (e : Event) (es rest : List Event) : Type 0 where
  pub theirs : own m es ≡ e ∷ own m rest
  pub others : (k : ℕ) → k ≢ m → own k es ≡ own k rest

-- the list without role m's first event; each of its beginnings comes from one of the list
pub record Without (m : ℕ) (es : List Event) (e : Event) (r : List Event) : Type 0 where
  pub rest : List Event
  pub shorter : length es ≡ suc (length rest)
  pub own_rest : own m rest ≡ r
  pub less : Less m e es rest
  pub fronts : (g : List Event) → Front g rest → (Front g es × (own m g ≡ [])) ⊎ ((f : List Event) × Front f es × Less m e f g)

pub without : (m : ℕ) (es : List Event) (e : Event) (r : List Event) → own m es ≡ e ∷ r → Without m es e r
without m [] e r q = absurd cc
without m (x ∷ es) e r q = step (λ h. without m es e r h) (cases_eq m x.role)
  where
    Fronts : List Event → Type 0
    Fronts rest = (g : List Event) → Front g rest → (Front g (x ∷ es) × (own m g ≡ [])) ⊎ ((f : List Event) × Front f (x ∷ es) × Less m e f g)

    at_first : m ≡ x.role → Without m (x ∷ es) e r
    at_first s =
        let q' : ◌≡◌ {A = List Event} (x ∷ own m es) (e ∷ r) = rw (mine_same m x s) at q in
        record {
          rest = es;
          shorter = refl;
          own_rest = cc;
          less = lesser es;
          fronts = λ g b. inr (x ∷ g, (b.0, ap (λ (z : List Event). x ∷ z) b.1), lesser g);
        }
      where
        lesser : (g : List Event) → Less m e (x ∷ g) g
        lesser g =
            let q' : ◌≡◌ {A = List Event} (x ∷ own m es) (e ∷ r) = rw (mine_same m x s) at q in
            record { theirs = rw (mine_same m x s) (cc); others = λ k n. rw (mine_other k x (λ h. n (h ∙ sym s))) }

    more : m ≢ x.role → (f g : List Event) → Less m e f g → Less m e (x ∷ f) (x ∷ g)
    more n f g l = record { theirs = rw (mine_other m x n) l.theirs; others = λ k o. ap (λ (z : List Event). mine k x ++ z) (l.others k o) }

    later : m ≢ x.role → Without m es e r → Without m (x ∷ es) e r
    later n w = record {
      rest = x ∷ w.rest;
      shorter = ap suc w.shorter;
      own_rest = rw (mine_other m x n) w.own_rest;
      less = more n es w.rest w.less;
      fronts = fronts;
    }
      where
        fronts : (g : List Event) → Front g (x ∷ w.rest) → (Front g (x ∷ es) × (own m g ≡ [])) ⊎ ((f : List Event) × Front f (x ∷ es) × Less m e f g)
        fronts [] b = inl ((x ∷ es, refl), refl)
        fronts (y ∷ g) b = go (w.fronts g (b.0, cc))
          where
            is : x ≡ y
            is = cc

            go : (Front g es × (own m g ≡ [])) ⊎ ((f : List Event) × Front f es × Less m e f g) → (Front (y ∷ g) (x ∷ es) × (own m (y ∷ g) ≡ [])) ⊎ ((f : List Event) × Front f (x ∷ es) × Less m e f (y ∷ g))
            go (inl a) = inl ((a.0.0, cc), rw (← is, mine_other m x n) a.1)
            go (inr a) = inr (x ∷ a.0, (a.1.0, ap (λ (z : List Event). x ∷ z) a.1.1), subst (λ (z : Event). Less m e (x ∷ a.0) (z ∷ g)) is (more n a.0 g a.2))

    step : (own m es ≡ e ∷ r → Without m es e r) → (m ≡ x.role) ⊎ (m ≡ x.role → ⊥) → Without m (x ∷ es) e r
    step below (inl s) = at_first s
    step below (inr n) = later n (below (rw (mine_other m x n) at q))

-- what is exchanged, with one event fewer
module _ (m : ℕ) (e : Event) (es rest : List Event) (less : Less m e es rest) where
  pub less_none : (w : Way) (k : ℕ) → along w k e ≡ [] → (n : ℕ) → exchanged w k (own n es) ≡ exchanged w k (own n rest)
  less_none w k z n = go (cases_eq n m)
    where
      go : (n ≡ m) ⊎ (n ≡ m → ⊥) → exchanged w k (own n es) ≡ exchanged w k (own n rest)
      go (inl q) = rw (q, less.theirs, z)
      go (inr o) = ap (exchanged w k) (less.others n o)

  pub less_other : (w : Way) (k n : ℕ) → n ≢ m → exchanged w k (own n es) ≡ exchanged w k (own n rest)
  less_other w k n o = ap (exchanged w k) (less.others n o)

  pub less_hit : (w : Way) (k : ℕ) → e.direction ≡ direction_of w → e.partner ≡ k → exchanged w k (own m es) ≡ e ∷ exchanged w k (own m rest)
  less_hit w k x y = rw (less.theirs, along_yes w k e x y)

-- what is exchanged, with one event more
pub more_hit : (w : Way) (k : ℕ) (es : List Event) (e : Event) → e.direction ≡ direction_of w → e.partner ≡ k → (n : ℕ) → n ≡ e.role → exchanged w k (own n (es ++ (e ∷ []))) ≡ exchanged w k (own n es) ++ (e ∷ [])
more_hit w k es e x y n q =
    ap (exchanged w k) (own_push_same n es e q) ∙ exchanged_append w k (own n es) (e ∷ [])
    ∙ ap (λ (z : List Event). exchanged w k (own n es) ++ (z ++ [])) (along_yes w k e x y)

pub more_none : (w : Way) (k : ℕ) (es : List Event) (e : Event) → along w k e ≡ [] → (n : ℕ) → exchanged w k (own n (es ++ (e ∷ []))) ≡ exchanged w k (own n es)
more_none w k es e z n = go (cases_eq n e.role)
  where
    go : (n ≡ e.role) ⊎ (n ≡ e.role → ⊥) → exchanged w k (own n (es ++ (e ∷ []))) ≡ exchanged w k (own n es)
    go (inl q) =
        ap (exchanged w k) (own_push_same n es e q) ∙ exchanged_append w k (own n es) (e ∷ [])
        ∙ ap (λ (y : List Event). exchanged w k (own n es) ++ (y ++ [])) z ∙ append-nil (exchanged w k (own n es))
    go (inr o) = ap (exchanged w k) (own_push_other n es e o)

pub more_other : (w : Way) (k : ℕ) (es : List Event) (e : Event) (n : ℕ) → n ≢ e.role → exchanged w k (own n (es ++ (e ∷ []))) ≡ exchanged w k (own n es)
more_other w k es e n o = ap (exchanged w k) (own_push_other n es e o)
