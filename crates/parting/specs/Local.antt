-- Meaning: when a table is a role's local protocol in a sheet.
use Rattle.std.specs.Prelude.{◌≡◌, ℕ, ◌<◌, ◌≤◌, get_or, Some, None, Decides, Option, ◌≢◌, slice_index_or}
use Rattle.sheet.specs.Model.{Sheet}
use Rattle.protocol.specs.Actions.{Way, sends, receives, Action}
use Rattle.protocol.specs.Sets.{Acts, Start, Led, Successor}
use Rattle.parting.specs.declared.local.LocalKind.{LocalKind}
use Rattle.parting.specs.declared.local.LocalKind.TheVariants.{Finished, Sending, Receiving}
use Rattle.parting.specs.declared.local.LocalSet.{LocalSet}
use Rattle.parting.specs.declared.local.Move.{Move}
use Rattle.parting.specs.declared.local.Part.{Part}
use Rattle.parting.specs.Masks.{has, In}

-- in the states of X role m acts, and always that way with that partner
pub record Always (sh : Sheet) (m : ℕ) (X : ℕ → Type 0) (way : Way) (partner : ℕ) : Type 0 where
  pub state : ℕ
  pub inside : X state
  pub action : Action
  pub acts : Acts sh m state action
  pub all : (s : ℕ) → X s → (a : Action) → Acts sh m s a → (a.way ≡ way) × (a.partner ≡ partner)

-- what the role does in X
abbrev pub KindIs : Sheet → ℕ → (ℕ → Type 0) → LocalKind → Type 0
KindIs sh m X Finished = (s : ℕ) → X s → (a : Action) → Acts sh m s a → ⊥
KindIs sh m X (Sending partner) = Always sh m X sends partner
KindIs sh m X (Receiving partner) = Always sh m X receives partner

-- the states of set i
abbrev pub set_of : Part → ℕ → LocalSet → ℕ
set_of part i d = (get_or part.sets i d).states

-- role m has an action with that label in X; all such have this row and reset; and the set that follows is X's successor
pub record Leads (sh : Sheet) (m : ℕ) (part : Part) (X : ℕ → Type 0) (label : ℕ) (to : Move) : Type 0 where
  pub target : ℕ
  pub led : Led sh m X label target
  pub timing : (s : ℕ) → X s → (a : Action) → Acts sh m s a → a.label ≡ label → (a.timing.row ≡ to.row) × (a.timing.reset ≡ to.reset)
  pub next : to.next < part.count
  pub successor : (d : LocalSet) (s : ℕ) → Decides (has (set_of part to.next d) s) (Successor sh m X label s)

abbrev pub MoveIs : Sheet → ℕ → Part → (ℕ → Type 0) → ℕ → Option Move → Type 0
MoveIs sh m part X label None = (t : ℕ) → Led sh m X label t → ⊥
MoveIs sh m part X label (Some to) = Leads sh m part X label to

-- set 0 is the start; no two sets are the same; each set's kind and moves are the role's
pub record LocalOf (sh : Sheet) (m : ℕ) (part : Part) : Type 0 where
  pub some : 0 < part.count
  pub few : part.count ≤ 32
  pub start : (d : LocalSet) (s : ℕ) → Decides (has (set_of part 0 d) s) (Start sh m s)
  pub apart : (i j : ℕ) → i < j → j < part.count → (d : LocalSet) → set_of part i d ≢ set_of part j d
  pub kind : (i : ℕ) → i < part.count → (d : LocalSet) → KindIs sh m (In (set_of part i d)) (get_or part.sets i d).kind
  pub move : (i : ℕ) → i < part.count → (d : LocalSet) → (label : ℕ) → label < 32 → MoveIs sh m part (In (set_of part i d)) label (slice_index_or (get_or part.sets i d).moves label None)
