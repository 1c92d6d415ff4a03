-- Computed: the entries of a part's table.
use Rattle.std.specs.Prelude.{◌≡◌, ℕ, ◌<◌, List, [], ◌∷◌, length, Some, None, Option, slice_index, slice_index_or}
use Rattle.parting.specs.declared.act.Act.{Act}
use Rattle.parting.specs.declared.act.Way.{Way}
use Rattle.parting.specs.declared.act.Way.TheVariants.{Sends, Receives}
use Rattle.parting.specs.declared.edge.Edge.{Edge}
use Rattle.parting.specs.declared.local.LocalKind.{LocalKind}
use Rattle.parting.specs.declared.local.LocalKind.TheVariants.{Finished, Sending, Receiving}
use Rattle.parting.specs.declared.local.LocalSet.{LocalSet}
use Rattle.parting.specs.declared.local.Move.{Move}
use Rattle.parting.specs.declared.local.Part.{Part}
use Rattle.parting.specs.Family.{View, ends, position}
use Rattle.parting.specs.Judge.{in_set, first_with}
use Rattle.parting.specs.Spread.{spread}

abbrev pub kind_by : Way → ℕ → LocalKind
kind_by Sends partner = Sending partner
kind_by Receives partner = Receiving partner

-- what a role does in a set in whose states it does this
abbrev pub local_kind : List Act → LocalKind
local_kind [] = Finished
local_kind (a ∷ as') = kind_by a.way a.partner

abbrev pub moved : Option Act → ℕ → Option Move
moved None next = None
moved (Some a) next = Some (record { row = a.row; reset = a.reset; next = next })

-- how it goes on under a label, among the sets found
unfoldable pub move_under : List Edge → List ℕ → List Act → ℕ → Option Move
move_under silent found as' label = moved (first_with label as') (position (spread silent (ends label as')) found)

-- the entry of a set
pub record Entry (v : View) (found : List ℕ) (mask : ℕ) (s : LocalSet) : Type 0 where
  pub states : s.states ≡ mask
  pub kind : s.kind ≡ local_kind (in_set mask v.acts)
  pub moves : (label : ℕ) → label < 32 → slice_index_or s.moves label None ≡ move_under v.silent found (in_set mask v.acts) label

-- the table of the sets found
pub record Table (v : View) (found : List ℕ) (part : Part) : Type 0 where
  pub count : part.count ≡ length found
  pub each : (i : ℕ) → i < length found → (d : LocalSet) → Entry v found (slice_index found i) (slice_index_or part.sets i d)
