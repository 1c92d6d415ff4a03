-- Meaning: the main worked cases, as one list.
use Rattle.std.specs.Prelude.{◌≡◌, ℕ, List, [], ◌∷◌, Some, None, Decides, slice_index_or}
use Rattle.stops.specs.Stops.{stop_of}
use Rattle.sheet.specs.Valid.{Valid}
use Rattle.books.specs.Cases.{Worked}
use Rattle.protocol.specs.Accepted.{Accepted as CanBeParted}
use Rattle.parting.specs.declared.accepted.Accepted.{Accepted}
use Rattle.parting.specs.declared.fault.PartFault.{PartFault}
use Rattle.parting.specs.declared.local.Part.{Part}
use Rattle.parting.specs.Blank.{no_part}
use Rattle.parting.specs.Local.{set_of}
use Rattle.parting.specs.Masks.{has}
use Rattle.parting.specs.Parts.{part_fault}
use Rattle.parting.specs.Stop.{stopped as part_stop}
use Rattle.parting.specs.Whole.{PartsOf}
use Rattle.events.specs.declared.event.Event.{Event}
use Rattle.runs.specs.Examples.{event, oven, windows, heating, untold}
use Rattle.events.specs.declared.fault.SessionFault.{SessionFault}
use Rattle.session.specs.Kept.{no_set}
use Rattle.session.specs.Outcomes.{Stopping, Forecasting}
use Rattle.events.specs.Stop.{stopped}

-- the mask has one state alone
abbrev pub Only : ℕ → ℕ → Type 0
Only mask state = (s : ℕ) → Decides (has mask s) (s ≡ state)

-- a part with the sets {0}, {1} and {2}, in this order
pub record ThreeSets (part : Part) : Type 0 where
  pub count : part.count ≡ 3
  pub first : Only (set_of part 0 no_set) 0
  pub second : Only (set_of part 1 no_set) 1
  pub third : Only (set_of part 2 no_set) 2

-- after these events have passed, the oven's session, opened at 100 with depth 8, stops this one with that number and places
pub record Stops (passed : List Event) (e : Event) (number first second : ℕ) : Type 0 where
  pub fault : SessionFault
  pub stopping : Stopping oven windows 100 8 passed e fault
  pub stop : stopped fault ≡ stop_of number first second

-- MAIN has sent HEAT
abbrev pub asked : List Event
asked = event 0 0 1 0 103 ∷ []

-- and OVEN has taken it and has sent HOT
abbrev pub answered : List Event
answered = event 0 0 1 0 103 ∷ event 1 1 0 0 105 ∷ event 1 0 0 1 125 ∷ []

pub record WorkedCases : Type 0 where
  -- Slots with period 100, first 10 and width 5: the next of 9 is 10, of 14 is 14, of 15 is 110, and of 4,294,967,280
  -- there is none. A margin of 2 over the window 20 to 40 holds at 18 and 42, not at 17 or 43. Under a margin of 3 over
  -- those slots the next of 18 is 107.
  pub books : Worked
  -- the oven sheet is valid, and is accepted
  pub oven_accepted : Valid oven × CanBeParted oven × (part_fault oven ≡ None)
  -- MAIN's sets in it are {0}, {1} and {2}
  pub main_sets : (a : Accepted) → PartsOf oven a → ThreeSets (slice_index_or a.parts.items 0 no_part)
  -- the second event that is put to it: OVEN takes HEAT at 106, when its clock is at 6, and is stopped with 47 at role 1, label 0
  pub second_event : Stops asked (event 1 1 0 0 106) 47 1 0
  -- the sixth: MAIN takes FAULT at 130, and HOT is the oldest; it is stopped with 45 at role 0, label 2
  pub sixth_event : Stops answered (event 0 1 1 2 130) 45 0 2
  -- after the third, by which OVEN took HEAT at 105, the forecast is 105 for OVEN, and none for MAIN
  pub oven_forecast : Forecasting oven windows 100 8 heating 1 (Some 105)
  pub main_forecast : Forecasting oven windows 100 8 heating 0 None
  -- A sends B GO or NO, and only after GO does B tell C: the sheet is stopped with 24 at role 2, set 0
  pub third_party : (fault : PartFault) × (part_fault untold ≡ Some fault) × (part_stop fault ≡ stop_of 24 2 0)
