-- What a place asks of a role: to send, to receive, or nothing.
use Rattle.std.proofs.Common.{◌≡◌, ℕ, eqb, ◌≢◌, ◌⊎◌, [], ◌∷◌, ◌∙◌, inl, inr}
use Rattle.std.proofs.lemmas.Bool.{cond-true, cond-false, eq-eqb, ne_eqb, cases_eq}
use Rattle.protocol.specs.Places.{Place}
use Rattle.protocol.specs.Actions.{Way, sends, Timing, Action, sending, receiving, turn}

pub turn_sender : (m : ℕ) (p : Place) → m ≡ p.sender → turn m p ≡ sending p ∷ []
unfolding turn
turn_sender m p q = cond-true (eqb m p.sender) (sending p ∷ []) _ (eq-eqb m p.sender q)

pub turn_receiver : (m : ℕ) (p : Place) → m ≢ p.sender → m ≡ p.receiver → turn m p ≡ receiving p ∷ []
unfolding turn
turn_receiver m p n q = cond-false (eqb m p.sender) (sending p ∷ []) _ (ne_eqb m p.sender n) ∙ cond-true (eqb m p.receiver) (receiving p ∷ []) [] (eq-eqb m p.receiver q)

pub turn_aside : (m : ℕ) (p : Place) → m ≢ p.sender → m ≢ p.receiver → turn m p ≡ []
unfolding turn
turn_aside m p n l = cond-false (eqb m p.sender) (sending p ∷ []) _ (ne_eqb m p.sender n) ∙ cond-false (eqb m p.receiver) (receiving p ∷ []) [] (ne_eqb m p.receiver l)

pub data Side (m : ℕ) (p : Place) : Type 0 where
  as_sender : m ≡ p.sender → turn m p ≡ sending p ∷ [] → Side m p
  as_receiver : m ≢ p.sender → m ≡ p.receiver → turn m p ≡ receiving p ∷ [] → Side m p
  aside : m ≢ p.sender → m ≢ p.receiver → turn m p ≡ [] → Side m p

pub side : (m : ℕ) (p : Place) → Side m p
side m p = first (cases_eq m p.sender)
  where
    second : m ≢ p.sender → (m ≡ p.receiver) ⊎ (m ≡ p.receiver → ⊥) → Side m p
    second n (inl q) = as_receiver n q (turn_receiver m p n q)
    second n (inr l) = aside n l (turn_aside m p n l)

    first : (m ≡ p.sender) ⊎ (m ≡ p.sender → ⊥) → Side m p
    first (inl q) = as_sender q (turn_sender m p q)
    first (inr n) = second n (cases_eq m p.receiver)

-- a role has one action in a place, or none
pub data Asked (m : ℕ) (p : Place) : Type 0 where
  asked : (a : Action) → turn m p ≡ a ∷ [] → Asked m p
  unasked : turn m p ≡ [] → Asked m p

pub ask : (m : ℕ) (p : Place) → Asked m p
ask m p = go (side m p)
  where
    go : Side m p → Asked m p
    go (as_sender _ t) = asked (sending p) t
    go (as_receiver _ _ t) = asked (receiving p) t
    go (aside _ _ t) = unasked t

-- the action has the label of the place's branch
pub asked_label : (m : ℕ) (p : Place) (a : Action) → turn m p ≡ a ∷ [] → a.label ≡ p.branch.label
asked_label m p a t = go (side m p)
  where
    go : Side m p → a.label ≡ p.branch.label
    go (as_sender _ u) = cc
    go (as_receiver _ _ u) = cc
    go (aside _ _ u) = cc

-- one who sends is the sender, one who receives the receiver
pub who_sends : (m : ℕ) (p : Place) (a : Action) → turn m p ≡ a ∷ [] → a.way ≡ sends → (m ≡ p.sender) × (a ≡ sending p)
who_sends m p a t w = go (side m p)
  where
    go : Side m p → (m ≡ p.sender) × (a ≡ sending p)
    go (as_sender q u) = (q, cc)
    go (as_receiver _ _ u) = absurd cc
    go (aside _ _ u) = absurd cc

abbrev make_action : Way → ℕ → ℕ → Timing → Action
make_action w k l t = record { way = w; partner = k; label = l; timing = t }

pub same_action : (a b : Action) → a.way ≡ b.way → a.partner ≡ b.partner → a.label ≡ b.label → a.timing ≡ b.timing → a ≡ b
same_action a b w k l t =
    let e : make_action a.way a.partner a.label a.timing ≡ make_action b.way b.partner b.label b.timing = rw (w, k, l, t) in
    e
