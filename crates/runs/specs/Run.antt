-- Meaning: a run of a sheet. For a sheet, a time book, an opening tick and a depth, a list of events is a run exactly
-- when the four points hold. Nothing here speaks of a monitor.
use Rattle.std.specs.Prelude.{◌≡◌, ℕ, ◌+◌, ◌-◌, ◌<◌, ◌≤◌, cond, ◌⊎◌, List, [], ◌∷◌, ◌++◌, map, length}
use Rattle.std.specs.List.{AllByRecursion}
use Rattle.sheet.specs.Model.{Sheet}
use Rattle.protocol.specs.Places.{Place}
use Rattle.protocol.specs.Actions.{Timing, Action}
use Rattle.protocol.specs.Paths.{PathFrom, share}
use Rattle.events.specs.declared.event.Event.{Event}
use Rattle.runs.specs.Events.{direction_of, own, sent, taken, labels}

-- First point: ticks begin at or above the opening tick and never fall.
abbrev pub Rising : ℕ → List Event → Type 0
Rising opening [] = Unit {0}
Rising opening (e ∷ es) = (opening ≤ e.tick) × Rising e.tick es

abbrev pub Begins : List ℕ → List ℕ → Type 0
Begins xs ys = (rest : List ℕ) × (ys ≡ xs ++ rest)

-- what role b took from role a is the beginning of what a sent it, and at most depth messages wait
abbrev pub InOrder : ℕ → List Event → ℕ → ℕ → Type 0
InOrder depth es a b = Begins (labels (taken a b es)) (labels (sent a b es)) × (length (sent a b es) ≤ length (taken a b es) + depth)

-- Second point, at every moment: after every beginning of the list, each ordered pair's messages are taken in sending
-- order, none before it is sent, and at most depth of them wait.
abbrev pub Channels : ℕ → List Event → Type 0
Channels depth es = (front back : List Event) → es ≡ front ++ back → (a b : ℕ) → InOrder depth front a b

-- the event is that action, in direction, partner and label
pub record Fits (e : Event) (a : Action) : Type 0 where
  pub direction : e.direction ≡ direction_of a.way
  pub partner : e.partner ≡ a.partner
  pub label : e.label ≡ a.label

-- the events are the beginning of the actions
abbrev pub Beginning : List Event → List Action → Type 0
Beginning [] actions = Unit {0}
Beginning (e ∷ es) [] = ⊥
Beginning (e ∷ es) (a ∷ actions) = Fits e a × Beginning es actions

-- which clock values each time row admits
abbrev pub Book : Type 1
Book = ℕ → ℕ → Type 0

-- row 255 admits every value
abbrev pub Admits : Book → Timing → ℕ → Type 0
Admits book timing value = (timing.row ≡ 255) ⊎ book timing.row value

abbrev pub timing_of : Action → Timing
timing_of a = a.timing

abbrev pub timings : List Action → List Timing
timings actions = map timing_of actions

-- the tick of the last of a role's events at which its clock is reset; the opening tick if there is none
abbrev pub last_reset : ℕ → List Event → List Timing → ℕ
last_reset opening [] ts = opening
last_reset opening (e ∷ es) [] = opening
last_reset opening (e ∷ es) (t ∷ ts) = last_reset (cond t.reset e.tick opening) es ts

-- at each of a role's events, its clock's value is in the row that the action at the same place of its share names
abbrev pub Timely : Book → ℕ → List Event → List Timing → Type 0
Timely book opening es ts =
    (before after : List Event) (e : Event) → es ≡ before ++ (e ∷ after) →
    (ts_before ts_after : List Timing) (t : Timing) → ts ≡ ts_before ++ (t ∷ ts_after) → length before ≡ length ts_before →
    Admits book t (e.tick - last_reset opening before ts_before)

pub record Run (sh : Sheet) (book : Book) (opening depth : ℕ) (es : List Event) : Type 0 where
  -- first point
  pub ticks : Rising opening es
  -- second point
  pub channels : Channels depth es
  -- third point: only roles of the sheet act; for some path, every role's events are the beginning of its share
  pub known : AllByRecursion (λ e. e.role < length sh.roles) es
  pub path : List Place
  pub leads : PathFrom sh 0 path
  pub shares : (m : ℕ) → Beginning (own m es) (share m path)
  -- fourth point, on that same path
  pub clocks : (m : ℕ) → Timely book opening (own m es) (timings (share m path))
