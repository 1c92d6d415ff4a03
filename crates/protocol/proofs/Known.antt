-- What validity says of the places of a sheet.
use Rattle.std.proofs.Common.{◌≡◌, ℕ, ◌<◌, ◌≢◌, ◌⊎◌, ⊎_elim, List, [], ◌∷◌, length, get_or, sym, ap, ◌∙◌, subst, inl, inr, arith}
use mathlib.Core.List.{Memᴰ}
use Rattle.std.specs.List.{AllByRecursion}
use Rattle.std.proofs.lemmas.List.{get_or_past}
use Rattle.std.proofs.ByRecursion.{All-get_or}
use Rattle.std.proofs.lemmas.Bool.{cases_lt, cases_order}
use Rattle.sheet.specs.declared.branch.Branch.{Branch}
use Rattle.sheet.specs.Model.{Sheet, ended, exchange}
use Rattle.sheet.specs.Valid.{GoodBranch, blank, Rising, GoodExchange, GoodState, Valid}
use Rattle.protocol.specs.Places.{Place, Has}
use Rattle.protocol.specs.Actions.{Action, turn, sending, receiving}
use Rattle.protocol.specs.Sets.{Acts}
use Rattle.protocol.proofs.Turns.{Side, as_sender, as_receiver, aside, side, asked_label}
use Rattle.protocol.proofs.Listed.{place_at, index_of}

-- what holds of each element holds of a member
pub all_member : {X : Type 0} (P : X → Type 0) (xs : List X) (x : X) → AllByRecursion P xs → Memᴰ x xs → P x
all_member P xs x all i = let k = index_of xs x x i in subst P k.2 (All-get_or P xs k.0 x k.1 all)

-- within a state the label determines the branch
branch_from_label : (bs : List Branch) → Rising bs → (b c : Branch) → Memᴰ b bs → Memᴰ c bs → b.label ≡ c.label → b ≡ c
branch_from_label bs rising b c i j l = go (index_of bs blank b i) (index_of bs blank c j)
  where
    go : (i : ℕ) × (i < length bs) × (get_or bs i blank ≡ b) → (j : ℕ) × (j < length bs) × (get_or bs j blank ≡ c) → b ≡ c
    go x y = pick (cases_order x.0 y.0)
      where
        below : (i j : ℕ) → i < j → j < length bs → (get_or bs i blank).label ≡ (get_or bs j blank).label → ⊥
        below i j h k e = omega (arith, rising i j h k)

        reads : (get_or bs x.0 blank).label ≡ (get_or bs y.0 blank).label
        reads = ap (λ (z : Branch). z.label) x.2 ∙ l ∙ sym (ap (λ (z : Branch). z.label) y.2)

        pick : (x.0 ≡ y.0) ⊎ ((x.0 < y.0) ⊎ (y.0 < x.0)) → b ≡ c
        pick (inl e) = sym x.2 ∙ ap (λ (n : ℕ). get_or bs n blank) e ∙ y.2
        pick (inr (inl h)) = absurd (below x.0 y.0 h y.1 reads)
        pick (inr (inr h)) = absurd (below y.0 x.0 h x.1 (sym reads))

-- a state has one sender, one receiver and one list of branches
pub same_exchange : (sh : Sheet) (p q : Place) (hp : Has sh p) (hq : Has sh q) → p.state ≡ q.state → (p.sender ≡ q.sender) × (p.receiver ≡ q.receiver) × (hp.branches ≡ hq.branches)
same_exchange sh p q hp hq e =
    let z : exchange p.sender p.receiver hp.branches ≡ exchange q.sender q.receiver hq.branches = sym hp.stands ∙ rw e hq.stands in
    (cc, cc, cc)

module _ (sh : Sheet) (valid : Valid sh) where
  pub state_known : (p : Place) → Has sh p → p.state < length sh.states
  state_known p h = ⊎_elim (λ l. l) (λ l. let e = get_or_past sh.states p.state ended l in absurd (cc h.stands)) (cases_lt p.state (length sh.states))

  pub good_exchange : (p : Place) (h : Has sh p) → GoodExchange sh p.sender p.receiver h.branches
  good_exchange p h = subst (GoodState sh) h.stands (All-get_or (GoodState sh) sh.states p.state ended (state_known p h) valid.good_states)

  pub good_branch : (p : Place) → Has sh p → GoodBranch sh p.branch
  good_branch p h = all_member (GoodBranch sh) h.branches p.branch (good_exchange p h).good h.among

  pub sender_known : (p : Place) → Has sh p → p.sender < length sh.roles
  sender_known p h = (good_exchange p h).sender_known

  pub receiver_known : (p : Place) → Has sh p → p.receiver < length sh.roles
  receiver_known p h = (good_exchange p h).receiver_known

  pub apart : (p : Place) → Has sh p → p.sender ≢ p.receiver
  apart p h e = (good_exchange p h).apart (sym e)

  pub label_known : (p : Place) → Has sh p → p.branch.label < length sh.labels
  label_known p h = (good_branch p h).label

  pub next_known : (p : Place) → Has sh p → p.branch.next < length sh.states
  next_known p h = (good_branch p h).next

  -- a place is determined by its state and its label
  pub same_place : (p q : Place) → Has sh p → Has sh q → p.state ≡ q.state → p.branch.label ≡ q.branch.label → p ≡ q
  same_place p q hp hq e l =
      let x = same_exchange sh p q hp hq e in
      let b : p.branch ≡ q.branch = branch_from_label hq.branches (good_exchange q hq).rising p.branch q.branch (subst (λ (bs : List Branch). Memᴰ p.branch bs) x.2 hp.among) hq.among l in
      let r : place_at p.state p.sender p.receiver p.branch ≡ place_at q.state q.sender q.receiver q.branch = rw (e, x.0, x.1, b) in
      r

  -- in one state, the label determines the action
  pub same_step : (m s : ℕ) (a b : Action) → Acts sh m s a → Acts sh m s b → a.label ≡ b.label → a ≡ b
  same_step m s a b x y l =
      let p : Place = x.1.place in
      let q : Place = y.1.place in
      let pl : p.branch.label ≡ q.branch.label = sym (asked_label m p a x.1.acts) ∙ l ∙ asked_label m q b y.1.acts in
      let e : p ≡ q = same_place p q x.1.has y.1.has (x.1.at ∙ sym y.1.at) pl in
      cc

  -- what an action names is in range
  pub action_known : (m : ℕ) (p : Place) → Has sh p → (a : Action) → turn m p ≡ a ∷ [] →
      (m < length sh.roles) × (a.partner < length sh.roles) × (m ≢ a.partner) × (a.label < length sh.labels)
  action_known m p h a t = go (side m p)
    where
      go : Side m p → (m < length sh.roles) × (a.partner < length sh.roles) × (m ≢ a.partner) × (a.label < length sh.labels)
      go (as_sender q u) =
          let is : sending p ≡ a = cc in
          (rw q (sender_known p h), rw (← is) (receiver_known p h), rw (← is, q) (apart p h), rw (← is) (label_known p h))
      go (as_receiver _ q u) =
          let is : receiving p ≡ a = cc in
          (rw q (receiver_known p h), rw (← is) (sender_known p h), rw (← is, q) (λ e. apart p h (sym e)), rw (← is) (label_known p h))
      go (aside _ _ u) = absurd cc
