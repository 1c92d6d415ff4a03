-- Meaning: sheets and lists of events written out, and what is so of them.
use Rattle.std.specs.Prelude.{ℕ, zero, suc, ◌<◌, ◌≤◌, List, [], ◌∷◌, length, Some, None}
use Rattle.std.specs.List.{AllByRecursion}
use Rattle.sheet.specs.declared.branch.Branch.{Branch}
use Rattle.sheet.specs.Model.{Sheet, ended, exchange}
use Rattle.sheet.specs.Valid.{Valid}
use Rattle.protocol.specs.Places.{Place}
use Rattle.protocol.specs.Paths.{PathFrom, share}
use Rattle.protocol.specs.Accepted.{Accepted}
use Rattle.events.specs.declared.event.Event.{Event}
use Rattle.runs.specs.Events.{own}
use Rattle.runs.specs.Run.{Book, Rising, Channels, Beginning, timings, Timely, Run}
use Rattle.runs.specs.Steady.{AllSteady}
use Rattle.runs.specs.Stands.{SetAfter}
use Rattle.runs.specs.Closing.{Finished, Completes}
use Rattle.runs.specs.Laws.{Least, Could}

abbrev pub branch : ℕ → ℕ → ℕ → ℕ → ℕ → Branch
branch label next send receive resets = record { label = label; next = next; send = send; receive = receive; resets = resets }

abbrev pub event : ℕ → ℕ → ℕ → ℕ → ℕ → Event
event role direction partner label tick = record { role = role; direction = direction; partner = partner; label = label; tick = tick }

-- roles MAIN and OVEN, labels HEAT, HOT and FAULT, two time rows
abbrev pub oven : Sheet
oven = record {
  roles = (77 ∷ 65 ∷ 73 ∷ 78 ∷ []) ∷ (79 ∷ 86 ∷ 69 ∷ 78 ∷ []) ∷ [];
  labels = (72 ∷ 69 ∷ 65 ∷ 84 ∷ []) ∷ (72 ∷ 79 ∷ 84 ∷ []) ∷ (70 ∷ 65 ∷ 85 ∷ 76 ∷ 84 ∷ []) ∷ [];
  states = exchange 0 1 (branch 0 1 255 0 3 ∷ []) ∷ exchange 1 0 (branch 1 2 1 255 0 ∷ branch 2 2 255 255 0 ∷ []) ∷ ended ∷ [];
  rows = 2;
}

-- row 0 is 0 to 5, row 1 is 20 to 40
abbrev pub windows : ℕ → ℕ → Type 0
windows zero value = value ≤ 5
windows (suc zero) value = (20 ≤ value) × (value ≤ 40)
windows (suc (suc row)) value = ⊥

-- MAIN sends HEAT, OVEN takes it, OVEN sends HOT, MAIN takes it
abbrev pub heated : List Event
heated = event 0 0 1 0 103 ∷ event 1 1 0 0 105 ∷ event 1 0 0 1 125 ∷ event 0 1 1 1 130 ∷ []

-- OVEN takes HEAT one tick before it was sent
abbrev pub falling : List Event
falling = event 0 0 1 0 103 ∷ event 1 1 0 0 102 ∷ []

-- OVEN takes HEAT, and only then MAIN sends it
abbrev pub unsent : List Event
unsent = event 1 1 0 0 103 ∷ event 0 0 1 0 103 ∷ []

-- OVEN sends HOT and was never heated
abbrev pub astray : List Event
astray = event 1 0 0 1 103 ∷ []

-- MAIN does something with HEAT that is neither sending nor taking
abbrev pub neither : List Event
neither = event 0 2 1 0 103 ∷ []

-- OVEN takes HEAT when its clock is at 6
abbrev pub late : List Event
late = event 0 0 1 0 103 ∷ event 1 1 0 0 106 ∷ []

-- OVEN, whose clock was reset when it took HEAT, sends HOT when its clock is at 19. Counted from the opening it would be
-- at 24, and counted from MAIN's sending at 21: both would be in the row.
abbrev pub early : List Event
early = event 0 0 1 0 103 ∷ event 1 1 0 0 105 ∷ event 1 0 0 1 124 ∷ []

-- MAIN sent HEAT and OVEN took it
abbrev pub heating : List Event
heating = event 0 0 1 0 103 ∷ event 1 1 0 0 105 ∷ []

-- the third point alone
pub record OnSomePath (sh : Sheet) (es : List Event) : Type 0 where
  pub known : AllByRecursion (λ e. e.role < length sh.roles) es
  pub path : List Place
  pub leads : PathFrom sh 0 path
  pub shares : (m : ℕ) → Beginning (own m es) (share m path)

-- the third and the fourth point
pub record TimelyOnSomePath (sh : Sheet) (book : Book) (opening : ℕ) (es : List Event) : Type 0 where
  pub third : OnSomePath sh es
  pub clocks : (m : ℕ) → Timely book opening (own m es) (timings (share m third.path))

abbrev pub NoRun : List Event → Type 0
NoRun es = Run oven windows 100 8 es → ⊥

pub record OvenExamples : Type 0 where
  pub valid : Valid oven
  pub accepted : Accepted oven
  pub run : Run oven windows 100 8 heated
  pub completes : Completes oven heated
  -- the first point alone fails
  pub falls : NoRun falling × Channels 8 falling × TimelyOnSomePath oven windows 100 falling
  -- the second alone
  pub takes_unsent : NoRun unsent × Rising 100 unsent × TimelyOnSomePath oven windows 100 unsent
  -- the third alone: there is no path, so the fourth cannot be asked
  pub strays : NoRun astray × Rising 100 astray × Channels 8 astray
  pub has_no_direction : NoRun neither × Rising 100 neither × Channels 8 neither
  -- the fourth alone
  pub is_late : NoRun late × Rising 100 late × Channels 8 late × OnSomePath oven late
  pub is_early : NoRun early × Rising 100 early × Channels 8 early × OnSomePath oven early
  -- after HEAT was taken at 105, OVEN can go on at once, by FAULT, and MAIN cannot whatever the tick
  pub oven_next : Least (Could oven windows 100 8 heating 1) 105 4294967295 (Some 105)
  pub main_next : Least (Could oven windows 100 8 heating 0) 105 4294967295 None

-- roles A and B, one label, no time rows: A sends to B for ever
abbrev pub ticker : Sheet
ticker = record {
  roles = (65 ∷ []) ∷ (66 ∷ []) ∷ [];
  labels = (84 ∷ []) ∷ [];
  states = exchange 0 1 (branch 0 0 255 255 0 ∷ []) ∷ [];
  rows = 0;
}

-- A sends n times
abbrev pub sendings : ℕ → List Event
sendings zero = []
sendings (suc n) = event 0 0 1 0 7 ∷ sendings n

-- at depth 8, the ninth sending breaks the second point: too many wait
pub record TickerExamples : Type 0 where
  pub eight : Run ticker windows 0 8 (sendings 8)
  pub nine : (Run ticker windows 0 8 (sendings 9) → ⊥) × TimelyOnSomePath ticker windows 0 (sendings 9)

-- Roles A, B and C, labels GO, NO, RUN and HALT: A sends B GO or NO, and B then sends C RUN or HALT.
abbrev pub relay : Sheet
relay = record {
  roles = (65 ∷ []) ∷ (66 ∷ []) ∷ (67 ∷ []) ∷ [];
  labels = (71 ∷ 79 ∷ []) ∷ (78 ∷ 79 ∷ []) ∷ (82 ∷ 85 ∷ 78 ∷ []) ∷ (72 ∷ 65 ∷ 76 ∷ 84 ∷ []) ∷ [];
  states = exchange 0 1 (branch 0 1 255 255 0 ∷ branch 1 2 255 255 0 ∷ []) ∷ exchange 1 2 (branch 2 3 255 255 0 ∷ []) ∷ exchange 1 2 (branch 3 3 255 255 0 ∷ []) ∷ ended ∷ [];
  rows = 0;
}

-- Roles A, B and C, labels GO, NO and RUN: after NO, C is told nothing.
abbrev pub untold : Sheet
untold = record {
  roles = (65 ∷ []) ∷ (66 ∷ []) ∷ (67 ∷ []) ∷ [];
  labels = (71 ∷ 79 ∷ []) ∷ (78 ∷ 79 ∷ []) ∷ (82 ∷ 85 ∷ 78 ∷ []) ∷ [];
  states = exchange 0 1 (branch 0 1 255 255 0 ∷ branch 1 2 255 255 0 ∷ []) ∷ exchange 1 2 (branch 2 2 255 255 0 ∷ []) ∷ ended ∷ [];
  rows = 0;
}

-- A sends NO and B takes it
abbrev pub declined : List Event
declined = event 0 0 1 1 5 ∷ event 1 1 0 1 6 ∷ []

-- The third party C of the relay learns from B which way A went, and the sheet is accepted; in the other sheet it may
-- wait for ever, and the sheet is not.
pub record ThirdPartyExamples : Type 0 where
  pub relay_valid : Valid relay
  pub relay_accepted : Accepted relay
  pub untold_valid : Valid untold
  pub untold_refused : Accepted untold → ⊥
  -- Agreement still holds of it, for in no set in which a role sends does the fourth point fail. Closing does not: after
  -- NO a path to an end has every role's events as its whole share, and yet C is not finished.
  pub untold_steady : AllSteady untold
  pub untold_run : Run untold windows 0 8 declined
  pub untold_completes : Completes untold declined
  pub untold_waits : Finished untold 2 (SetAfter untold 2 declined) → ⊥
