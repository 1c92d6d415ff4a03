-- Meaning: when a role, in a set of states that it cannot tell apart, knows what to do.
use Rattle.std.specs.Prelude.{◌≡◌, ℕ}
use Rattle.sheet.specs.Model.{Sheet}
use Rattle.protocol.specs.Actions.{Action, sends, receives}
use Rattle.protocol.specs.Places.{Place, Has}
use Rattle.protocol.specs.Sets.{Acts}

-- first point: in all states where it acts it is on the same side, with the same partner
abbrev pub OneSide : Sheet → ℕ → (ℕ → Type 0) → Type 0
OneSide sh m X =
    (s t : ℕ) → X s → X t → (a b : Action) → Acts sh m s a → Acts sh m t b → (a.way ≡ b.way) × (a.partner ≡ b.partner)

-- second point: as sender it has the same labels in all of them, each with the same row and reset
abbrev pub SameOffer : Sheet → ℕ → (ℕ → Type 0) → Type 0
SameOffer sh m X =
    (s t : ℕ) → X s → X t → (a b : Action) → Acts sh m s a → Acts sh m t b → a.way ≡ sends →
    (c : Action) × Acts sh m t c × (c.label ≡ a.label) × (c.timing ≡ a.timing)

-- third point: as receiver, a label found in two of them has the same row and reset
abbrev pub NoClash : Sheet → ℕ → (ℕ → Type 0) → Type 0
NoClash sh m X =
    (s t : ℕ) → X s → X t → (a b : Action) → Acts sh m s a → Acts sh m t b → a.way ≡ receives → a.label ≡ b.label → a.timing ≡ b.timing

-- from state s, a state in which role m acts can be reached, in any number of steps, none included
pub data Reaches (sh : Sheet) (m : ℕ) : ℕ → Type 0 where
  now : {s : ℕ} (a : Action) → Acts sh m s a → Reaches sh m s
  later : {s : ℕ} (p : Place) → Has sh p → p.state ≡ s → Reaches sh m p.branch.next → Reaches sh m s

-- fourth point: from each state of the set, some state in which the role acts can be reached
abbrev pub Told : Sheet → ℕ → (ℕ → Type 0) → Type 0
Told sh m X = (s : ℕ) → X s → Reaches sh m s

-- A set in which the role never acts is sound: then the first three points hold of nothing, and the fourth is not asked.
pub record Sound (sh : Sheet) (m : ℕ) (X : ℕ → Type 0) : Type 0 where
  pub one_side : OneSide sh m X
  pub same_offer : SameOffer sh m X
  pub no_clash : NoClash sh m X
  pub told : (s : ℕ) → X s → (a : Action) → Acts sh m s a → Told sh m X
