-- Meaning: what the calls of a session have to answer after the events that have passed, by runs of the sheet.
use Rattle.std.specs.Prelude.{◌≡◌, ℕ, ◌-◌, ◌<◌, ◌≤◌, cond, ◌≢◌, List, [], ◌∷◌, ◌++◌, length, Ok, Err, Option, Result, ◌==◌}
use Rattle.sheet.specs.Model.{Sheet}
use Rattle.protocol.specs.Places.{Place}
use Rattle.protocol.specs.Actions.{Action}
use Rattle.protocol.specs.Paths.{PathFrom, share}
use Rattle.events.specs.declared.event.Event.{Event}
use Rattle.events.specs.declared.message.Message.{Message}
use Rattle.runs.specs.Events.{own}
use Rattle.runs.specs.Run.{Book, Admits, Fits, Beginning, timings, last_reset, Run}
use Rattle.runs.specs.Waiting.{waiting, under_way}
use Rattle.runs.specs.Monitor.{Able}
use Rattle.runs.specs.Stands.{last_tick, SetAfter}
use Rattle.runs.specs.Closing.{Finished, Completes}
use Rattle.runs.specs.Laws.{Least, Could}
use Rattle.events.specs.declared.closing.Early.{Early}
use Rattle.events.specs.declared.fault.SessionFault.{SessionFault}
use Rattle.events.specs.declared.fault.SessionFault.TheVariants.{Book as TooFewRows, Depth, Who, What, Back, Turn, Line, Full, Time}

-- with this event, the events are a run
abbrev pub GoesOn : Sheet → Book → ℕ → ℕ → List Event → Event → Type 0
GoesOn sh book opening depth es e = Run sh book opening depth (es ++ (e ∷ []))

-- what a passed event answers: a sending how many messages then wait in its channel, a taking for how many ticks its
-- message was under way
abbrev pub answer_of : List Event → Event → ℕ
answer_of es e = cond (e.direction == 0) (length (waiting e.role e.partner (es ++ (e ∷ [])))) (under_way es e)

-- what the stops 41 to 47 deny, in the order of their numbers

-- the sheet has both roles, and they are two
pub record Known (sh : Sheet) (e : Event) : Type 0 where
  pub role : e.role < length sh.roles
  pub partner : e.partner < length sh.roles
  pub apart : e.role ≢ e.partner

-- the sheet has the label, and the direction is one
pub record Worded (sh : Sheet) (e : Event) : Type 0 where
  pub label : e.label < length sh.labels
  pub direction : e.direction ≤ 1

-- the tick is not below the latest
abbrev pub InOrder : ℕ → List Event → Event → Type 0
InOrder opening es e = last_tick opening es ≤ e.tick

-- the role's set has such an action
pub record HasTurn (sh : Sheet) (es : List Event) (e : Event) : Type 0 where
  pub action : Action
  pub able : Able sh e.role (SetAfter sh e.role es) action
  pub fits : Fits e action

-- a taking finds its label oldest in its channel
abbrev pub Waits : List Event → Event → Type 0
Waits es e = e.direction ≡ 1 → (x : Message) × (rest : List Message) × (waiting e.partner e.role es ≡ x ∷ rest) × (x.label ≡ e.label)

-- a sending finds room in its channel
abbrev pub HasRoom : ℕ → List Event → Event → Type 0
HasRoom depth es e = e.direction ≡ 0 → length (waiting e.role e.partner es) < depth

-- on some path that begins with the role's events, its clock is in the row of such an action
pub record InRow (sh : Sheet) (book : Book) (opening : ℕ) (es : List Event) (e : Event) : Type 0 where
  pub turn : HasTurn sh es e
  pub path : List Place
  pub leads : PathFrom sh 0 path
  pub begins : Beginning (own e.role es) (share e.role path)
  pub holds : Admits book turn.action.timing (e.tick - last_reset opening (own e.role es) (timings (share e.role path)))

-- The stop of an event: the first in the order of the numbers whose condition fails. It has the event's role and label.
abbrev pub Refused : Sheet → Book → ℕ → ℕ → List Event → Event → SessionFault → Type 0
Refused sh book opening depth es e (Who role label) = (role ≡ e.role) × (label ≡ e.label) × (Known sh e → ⊥)
Refused sh book opening depth es e (What role label) = (role ≡ e.role) × (label ≡ e.label) × Known sh e × (Worded sh e → ⊥)
Refused sh book opening depth es e (Back role label) = (role ≡ e.role) × (label ≡ e.label) × Known sh e × Worded sh e × (InOrder opening es e → ⊥)
Refused sh book opening depth es e (Turn role label) = (role ≡ e.role) × (label ≡ e.label) × Known sh e × Worded sh e × InOrder opening es e × (HasTurn sh es e → ⊥)
Refused sh book opening depth es e (Line role label) = (role ≡ e.role) × (label ≡ e.label) × Known sh e × Worded sh e × InOrder opening es e × HasTurn sh es e × (Waits es e → ⊥)
Refused sh book opening depth es e (Full role label) = (role ≡ e.role) × (label ≡ e.label) × Known sh e × Worded sh e × InOrder opening es e × HasTurn sh es e × Waits es e × (HasRoom depth es e → ⊥)
Refused sh book opening depth es e (Time role label) = (role ≡ e.role) × (label ≡ e.label) × Known sh e × Worded sh e × InOrder opening es e × HasTurn sh es e × Waits es e × HasRoom depth es e × (InRow sh book opening es e → ⊥)
Refused sh book opening depth es e (TooFewRows rows) = ⊥
Refused sh book opening depth es e (Depth depth') = ⊥

-- the event passes, and answers so
pub record Passing (sh : Sheet) (book : Book) (opening depth : ℕ) (es : List Event) (e : Event) (answer : ℕ) : Type 0 where
  pub run : GoesOn sh book opening depth es e
  pub answers : answer ≡ answer_of es e

-- the event is stopped by this fault
pub record Stopping (sh : Sheet) (book : Book) (opening depth : ℕ) (es : List Event) (e : Event) (fault : SessionFault) : Type 0 where
  pub no_run : GoesOn sh book opening depth es e → ⊥
  pub refused : Refused sh book opening depth es e fault

-- the tick that a forecast has to give: the least, from the latest on, at which some event of the role makes a run
pub record Forecasting (sh : Sheet) (book : Book) (opening depth : ℕ) (es : List Event) (role : ℕ) (answer : Option ℕ) : Type 0 where
  pub known : role < length sh.roles
  pub least : Least (Could sh book opening depth es role) (last_tick opening es) 4294967295 answer

-- a forecast is stopped only for a role that the sheet does not have
pub record NoRole (sh : Sheet) (role : ℕ) (fault : SessionFault) : Type 0 where
  pub unknown : length sh.roles ≤ role
  pub who : fault ≡ Who role 0

-- what closing has to answer: Ok exactly when every role is finished, which is when some path to an end has every
-- role's events as its whole share; else the lowest role that is not finished
abbrev pub Closes : Sheet → List Event → Result (Unit {0}) Early → Type 0
Closes sh es (Ok done) = ((m : ℕ) → m < length sh.roles → Finished sh m (SetAfter sh m es)) × Completes sh es
Closes sh es (Err early) =
    (early.role < length sh.roles) × (Finished sh early.role (SetAfter sh early.role es) → ⊥) ×
    ((m : ℕ) → m < early.role → Finished sh m (SetAfter sh m es)) × (Completes sh es → ⊥)
