-- A role's view of a sheet says what the sheet says: its acts are the role's steps, and its silent edges are the steps without it.
use Rattle.std.proofs.Common.{◌≡◌, ℕ, suc, true, false, eqb, ◌⊎◌, List, [], ◌∷◌, ◌++◌, map, Decides, sym, refl, ap, ◌∙◌, subst, inl, inr}
use mathlib.Core.List.Memᴰ
use mathlib.Core.List.{Memᴰ}
use Rattle.std.specs.List.{flat_map}
use Rattle.std.proofs.lemmas.Bool.{cases_Bool}
use Rattle.sheet.specs.Model.{State, ended, exchange, Sheet}
use Rattle.protocol.specs.Places.{Place, Has}
use Rattle.protocol.specs.Actions.{Action, sending, receiving, turn}
use Rattle.protocol.specs.Sets.{Silent, here, on, Step}
use Rattle.protocol.proofs.Listed.{places_numbered, has_from_listed, listed_from_has}
use Rattle.parting.specs.declared.act.Act.{Act}
use Rattle.parting.specs.declared.edge.Edge.{Edge}
use Rattle.parting.specs.Masks.{has, In}
use Rattle.parting.specs.Spread.{Reach, start, along, spread}
use Rattle.parting.specs.View.{make_place, places_from, places, send_act, receive_act, acts_at, acts, edge_of, silent_at, silent_edges, action_of}
use Rattle.parting.proofs.Spreading.{spread_decides}

-- lists
pub joined_from : {X A : Type 0} (f : X → List A) (xs : List X) (a : A) → Memᴰ a (flat_map f xs) → (x : X) × Memᴰ x xs × Memᴰ a (f x)
joined_from f [] a i = elim i [ ]
joined_from {X} {A} f (x ∷ xs) a i = go (λ j. joined_from f xs a j) (Memᴰ.append_cases (f x) i)
  where
    Out : List X → Type 0
    Out ys = (y : X) × Memᴰ y ys × Memᴰ a (f y)

    go : (Memᴰ a (flat_map f xs) → Out xs) → Memᴰ a (f x) ⊎ Memᴰ a (flat_map f xs) → Out (x ∷ xs)
    go below (inl j) = (x, Memᴰ.head refl, j)
    go below (inr j) = let r = below j in (r.0, Memᴰ.tail r.1, r.2)

pub joined_to : {X A : Type 0} (f : X → List A) (xs : List X) (x : X) (a : A) → Memᴰ x xs → Memᴰ a (f x) → Memᴰ a (flat_map f xs)
joined_to f [] x a i j = elim i [ ]
joined_to f (y ∷ xs) x a (Memᴰ.head q) j = Memᴰ.append_left (flat_map f xs) (subst (λ z. Memᴰ a (f z)) q j)
joined_to f (y ∷ xs) x a (Memᴰ.tail i) j = Memᴰ.append_right (f y) (joined_to f xs x a i j)

-- the places of a sheet, one by one
same_places : (s : ℕ) (xs : List State) → places_from s xs ≡ places_numbered s xs
same_places s [] = refl
same_places s (ended ∷ xs) = same_places (suc s) xs
same_places s (exchange A B bs ∷ xs) = ap (λ ps. map (make_place s A B) bs ++ ps) (same_places (suc s) xs)

pub has_from : (sh : Sheet) (p : Place) → Memᴰ p (places sh) → Has sh p
has_from sh p i = has_from_listed sh p (subst (Memᴰ p) (same_places 0 sh.states) i)

pub has_to : (sh : Sheet) (p : Place) → Has sh p → Memᴰ p (places sh)
has_to sh p h = subst (Memᴰ p) (sym (same_places 0 sh.states)) (listed_from_has sh p h)

-- which side of a place a role is on
pub data Side (m : ℕ) (p : Place) : Type 0 where
  as_sender : turn m p ≡ sending p ∷ [] → acts_at m p ≡ send_act p ∷ [] → silent_at m p ≡ [] → Side m p
  as_receiver : turn m p ≡ receiving p ∷ [] → acts_at m p ≡ receive_act p ∷ [] → silent_at m p ≡ [] → Side m p
  apart : turn m p ≡ [] → acts_at m p ≡ [] → silent_at m p ≡ edge_of p ∷ [] → Side m p

pub side : (m : ℕ) (p : Place) → Side m p
unfolding turn acts_at silent_at
side m p = first (cases_Bool (eqb m p.sender))
  where
    second : eqb m p.sender ≡ false → (eqb m p.receiver ≡ true) ⊎ (eqb m p.receiver ≡ false) → Side m p
    second n (inl q) = as_receiver (rw (n, q)) (rw (n, q)) (rw (n, q))
    second n (inr q) = apart (rw (n, q)) (rw (n, q)) (rw (n, q))

    first : (eqb m p.sender ≡ true) ⊎ (eqb m p.sender ≡ false) → Side m p
    first (inl q) = as_sender (rw q) (rw q) (rw q)
    first (inr n) = second n (cases_Bool (eqb m p.receiver))

-- an act of a place is a step of the role there
abbrev pub ActAt : ℕ → Place → Act → Type 0
ActAt m p a = (a.state ≡ p.state) × (a.next ≡ p.branch.next) × (turn m p ≡ action_of a ∷ [])

pub act_at : (m : ℕ) (p : Place) (a : Act) → Memᴰ a (acts_at m p) → ActAt m p a
act_at m p a i = go (side m p)
  where
    go : Side m p → ActAt m p a
    go (as_sender t e _) = let q : a ≡ send_act p = Memᴰ.eq_of_singleton (subst (Memᴰ a) e i) in rw q (refl, refl, t)
    go (as_receiver t e _) = let q : a ≡ receive_act p = Memᴰ.eq_of_singleton (subst (Memᴰ a) e i) in rw q (refl, refl, t)
    go (apart t e _) = let j : Memᴰ a [] = subst (Memᴰ a) e i in elim j [ ]

at_act : (m : ℕ) (p : Place) (x : Action) → turn m p ≡ x ∷ [] → (a : Act) × Memᴰ a (acts_at m p) × (a.state ≡ p.state) × (a.next ≡ p.branch.next) × (action_of a ≡ x)
at_act m p x u = go (side m p)
  where
    go : Side m p → (a : Act) × Memᴰ a (acts_at m p) × (a.state ≡ p.state) × (a.next ≡ p.branch.next) × (action_of a ≡ x)
    go (as_sender t e _) = (send_act p, subst (Memᴰ (send_act p)) (sym e) (Memᴰ.head refl), refl, refl, cc)
    go (as_receiver t e _) = (receive_act p, subst (Memᴰ (receive_act p)) (sym e) (Memᴰ.head refl), refl, refl, cc)
    go (apart t e _) = absurd cc

module _ (sh : Sheet) (m : ℕ) where
  -- the acts of the view are the role's steps
  pub act_step : (a : Act) → Memᴰ a (acts m (places sh)) → Step sh m a.state (action_of a) a.next
  act_step a i =
      let r = joined_from (acts_at m) (places sh) a i in
      let q = act_at m r.0 a r.2 in
      record { place = r.0; has = has_from sh r.0 r.1; at = sym q.0; acts = q.2; leads = sym q.1 }

  pub step_act : (s t : ℕ) (x : Action) → Step sh m s x t → (a : Act) × Memᴰ a (acts m (places sh)) × (a.state ≡ s) × (a.next ≡ t) × (action_of a ≡ x)
  step_act s t x st =
      let r = at_act m st.place x st.acts in
      (r.0, joined_to (acts_at m) (places sh) st.place r.0 (has_to sh st.place st.has) r.1, r.2 ∙ st.at, r.3 ∙ st.leads, r.4)

  edge_from : (e : Edge) → Memᴰ e (silent_edges m (places sh)) → (p : Place) × Has sh p × (turn m p ≡ []) × (e ≡ edge_of p)
  edge_from e i = let r = joined_from (silent_at m) (places sh) e i in go r.0 (has_from sh r.0 r.1) r.2 (side m r.0)
    where
      go : (p : Place) → Has sh p → Memᴰ e (silent_at m p) → Side m p → (q : Place) × Has sh q × (turn m q ≡ []) × (e ≡ edge_of q)
      go p h j (as_sender _ _ z) = let k : Memᴰ e [] = subst (Memᴰ e) z j in elim k [ ]
      go p h j (as_receiver _ _ z) = let k : Memᴰ e [] = subst (Memᴰ e) z j in elim k [ ]
      go p h j (apart t _ z) = (p, h, t, Memᴰ.eq_of_singleton (subst (Memᴰ e) z j))

  edge_to : (p : Place) → Has sh p → turn m p ≡ [] → Memᴰ (edge_of p) (silent_edges m (places sh))
  edge_to p h t = go (side m p)
    where
      go : Side m p → Memᴰ (edge_of p) (silent_edges m (places sh))
      go (as_sender u _ _) = absurd cc
      go (as_receiver u _ _) = absurd cc
      go (apart _ _ z) = joined_to (silent_at m) (places sh) p (edge_of p) (has_to sh p h) (subst (Memᴰ (edge_of p)) (sym z) (Memᴰ.head refl))

  reach_silent : (X : ℕ → Type 0) (s : ℕ) → Reach (silent_edges m (places sh)) X s → Silent sh m X s
  reach_silent X s (start x) = here x
  reach_silent X s (along e i r q) =
      let f = edge_from e i in
      on f.0 f.1 (subst (Silent sh m X) (ap (λ (z : Edge). z.from) f.3) (reach_silent X e.from r)) f.2 (sym (ap (λ (z : Edge). z.to) f.3) ∙ q)

  silent_reach : (X : ℕ → Type 0) (s : ℕ) → Silent sh m X s → Reach (silent_edges m (places sh)) X s
  silent_reach X s (here x) = start x
  silent_reach X s (on p h x t q) = along (edge_of p) (edge_to p h t) (silent_reach X p.state x) q

  -- the silent closure of a mask
  pub silent_decides : (X s : ℕ) → Decides (has (spread (silent_edges m (places sh)) X) s) (Silent sh m (In X) s)
  silent_decides X s =
      let d = spread_decides (silent_edges m (places sh)) X s in
      (λ q. reach_silent (In X) s (d.0 q), λ x. d.1 (silent_reach (In X) s x))
