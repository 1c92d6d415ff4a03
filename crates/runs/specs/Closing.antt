-- Meaning: when everything that the sheet asks is done.
use Rattle.std.specs.Prelude.{◌≡◌, ℕ, ◌<◌, List, length, slice_index_or}
use Rattle.sheet.specs.Model.{Sheet, ended}
use Rattle.protocol.specs.Places.{Place}
use Rattle.protocol.specs.Actions.{Action}
use Rattle.protocol.specs.Paths.{PathFrom, end_of, share}
use Rattle.protocol.specs.Sets.{Acts}
use Rattle.events.specs.declared.event.Event.{Event}
use Rattle.runs.specs.Events.{own}
use Rattle.runs.specs.Run.{Beginning}

-- role m acts in no state of X
abbrev pub Finished : Sheet → ℕ → (ℕ → Type 0) → Type 0
Finished sh m X = (s : ℕ) → X s → (a : Action) → Acts sh m s a → ⊥

-- the events are all of the actions
pub record Whole (es : List Event) (actions : List Action) : Type 0 where
  pub begin : Beginning es actions
  pub all : length es ≡ length actions

-- some path to an end has every role's events as its whole share
pub record Completes (sh : Sheet) (es : List Event) : Type 0 where
  pub path : List Place
  pub leads : PathFrom sh 0 path
  pub ends : slice_index_or sh.states (end_of 0 path) ended ≡ ended
  pub shares : (m : ℕ) → m < length sh.roles → Whole (own m es) (share m path)
