-- Meaning: the sets of states that a role cannot tell apart.
use Rattle.std.specs.Prelude.{◌≡◌, ℕ, List, [], ◌∷◌}
use Rattle.sheet.specs.Model.{Sheet}
use Rattle.protocol.specs.Actions.{Action, turn}
use Rattle.protocol.specs.Places.{Place, Has}

-- Silent closure: the least set that holds X and, with every state in which role m is neither sender nor receiver,
-- all that state's next states.
pub data Silent (sh : Sheet) (m : ℕ) (X : ℕ → Type 0) : ℕ → Type 0 where
  here : {s : ℕ} → X s → Silent sh m X s
  on : {s : ℕ} (p : Place) → Has sh p → Silent sh m X p.state → turn m p ≡ [] → p.branch.next ≡ s → Silent sh m X s

-- in state s, role m acts by action a and the sheet goes on to state t
pub record Step (sh : Sheet) (m s : ℕ) (a : Action) (t : ℕ) : Type 0 where
  pub place : Place
  pub has : Has sh place
  pub at : place.state ≡ s
  pub acts : turn m place ≡ a ∷ []
  pub leads : place.branch.next ≡ t

-- in state s, role m acts by action a
abbrev pub Acts : Sheet → ℕ → ℕ → Action → Type 0
Acts sh m s a = (t : ℕ) × Step sh m s a t

-- the set in which role m starts
abbrev pub Start : Sheet → ℕ → ℕ → Type 0
Start sh m = Silent sh m (λ s. s ≡ 0)

-- the next states of that label's branches in the states of X in which role m acts
pub record Led (sh : Sheet) (m : ℕ) (X : ℕ → Type 0) (label t : ℕ) : Type 0 where
  pub state : ℕ
  pub inside : X state
  pub action : Action
  pub labelled : action.label ≡ label
  pub step : Step sh m state action t

-- the set after an action of role m in X with that label
abbrev pub Successor : Sheet → ℕ → (ℕ → Type 0) → ℕ → ℕ → Type 0
Successor sh m X label = Silent sh m (Led sh m X label)

-- the set after actions with those labels, from X on
abbrev pub After : Sheet → ℕ → (ℕ → Type 0) → List ℕ → ℕ → Type 0
After sh m X [] = X
After sh m X (label ∷ labels) = After sh m (Successor sh m X label) labels

-- the labels can be followed one after the other from X: in each set, role m has an action with that label
abbrev pub Followed : Sheet → ℕ → (ℕ → Type 0) → List ℕ → Type 0
Followed sh m X [] = Unit {0}
Followed sh m X (label ∷ labels) = ((t : ℕ) × Led sh m X label t) × Followed sh m (Successor sh m X label) labels
