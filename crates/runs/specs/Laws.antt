-- Meaning: the theorems on runs and monitors.
use Rattle.std.specs.Prelude.{◌≡◌, ℕ, ◌-◌, ◌<◌, ◌≤◌, ◌≢◌, ◌⊎◌, ◌↔◌, List, [], ◌∷◌, ◌++◌, map, length, Some, None, Option}
use Rattle.std.specs.List.{AllByRecursion}
use Rattle.sheet.specs.Model.{Sheet}
use Rattle.sheet.specs.Valid.{Valid}
use Rattle.protocol.specs.Places.{Place}
use Rattle.protocol.specs.Paths.{PathFrom, end_of, share}
use Rattle.protocol.specs.Accepted.{Accepted}
use Rattle.events.specs.declared.event.Event.{Event}
use Rattle.runs.specs.Events.{own, sent, taken, labels}
use Rattle.runs.specs.Run.{Book, Beginning, timings, last_reset, Timely, Run}
use Rattle.events.specs.declared.message.Message.{Message}
use Rattle.runs.specs.Waiting.{message, waiting, under_way}
use Rattle.runs.specs.Steady.{AllSteady}
use Rattle.runs.specs.Monitor.{Monitor, InSet, Opened, Passes, Changes, Reached}
use Rattle.runs.specs.Stands.{SetAfter, Stands}
use Rattle.runs.specs.Closing.{Finished, Whole, Completes}

-- Agreement, for the sheets of which Good holds: after any events that passed, the next event passes exactly when with
-- it they are a run.
abbrev pub Agreement : (Sheet → Type 0) → Book → Type 0
Agreement Good book =
    (sh : Sheet) → Valid sh → Good sh → (opening depth : ℕ) (es : List Event) (σ : Monitor) → Reached sh book opening depth es σ →
    (e : Event) → Passes sh book depth σ e ↔ Run sh book opening depth (es ++ (e ∷ []))

-- the answer is the least number from low to high of which P holds, or none, and then there is none
abbrev pub Least : (ℕ → Type 0) → ℕ → ℕ → Option ℕ → Type 0
Least P low high (Some t) = (low ≤ t) × (t ≤ high) × P t × ((u : ℕ) → low ≤ u → u < t → P u → ⊥)
Least P low high None = (u : ℕ) → low ≤ u → u ≤ high → P u → ⊥

-- some event of role m at tick t passes
abbrev pub CouldPass : Sheet → Book → ℕ → Monitor → ℕ → ℕ → Type 0
CouldPass sh book depth σ m t = (e : Event) × (e.role ≡ m) × (e.tick ≡ t) × Passes sh book depth σ e

-- with some event of role m at tick t, the events are a run
abbrev pub Could : Sheet → Book → ℕ → ℕ → List Event → ℕ → ℕ → Type 0
Could sh book opening depth es m t = (e : Event) × (e.role ≡ m) × (e.tick ≡ t) × Run sh book opening depth (es ++ (e ∷ []))

-- Foresight: after any events that passed, the least tick at which some event of a role passes is the least tick at which
-- some event of that role makes a run, and there is none exactly when there is none. No such tick is below the latest.
pub record Foresees (sh : Sheet) (book : Book) (opening depth : ℕ) (es : List Event) (σ : Monitor) (m : ℕ) : Type 0 where
  pub least : (high : ℕ) (answer : Option ℕ) → Least (CouldPass sh book depth σ m) σ.latest high answer ↔ Least (Could sh book opening depth es m) σ.latest high answer
  pub from_latest : (t : ℕ) → Could sh book opening depth es m t → σ.latest ≤ t

abbrev pub Foresight : (Sheet → Type 0) → Book → Type 0
Foresight Good book =
    (sh : Sheet) → Valid sh → Good sh → (opening depth : ℕ) (es : List Event) (σ : Monitor) → Reached sh book opening depth es σ →
    (m : ℕ) → Foresees sh book opening depth es σ m

-- What a monitor keeps is read off the events that passed: it stands at none when it is opened, and after an event that
-- passed it stands at that one more. And where it stands, passing and runs agree.
pub record Keeps (sh : Sheet) (book : Book) (opening depth : ℕ) : Type 0 where
  pub opens : (σ : Monitor) → Opened sh opening σ → Stands sh book opening depth [] σ
  pub goes_on : (es : List Event) (σ τ : Monitor) → Stands sh book opening depth es σ → (e : Event) (p : Passes sh book depth σ e) → Changes sh σ e p.action τ → Stands sh book opening depth (es ++ (e ∷ [])) τ
  pub agrees : (es : List Event) (σ : Monitor) → Stands sh book opening depth es σ → (e : Event) → Passes sh book depth σ e ↔ Run sh book opening depth (es ++ (e ∷ []))
  pub foresees : (es : List Event) (σ : Monitor) → Stands sh book opening depth es σ → (m : ℕ) → Foresees sh book opening depth es σ m

abbrev pub Keeping : (Sheet → Type 0) → Book → Type 0
Keeping Good book = (sh : Sheet) → Valid sh → Good sh → (opening depth : ℕ) → Keeps sh book opening depth

-- an accepted sheet has as much as agreement needs
abbrev pub AcceptedIsSteady : Type 0
AcceptedIsSteady = (sh : Sheet) → Accepted sh → AllSteady sh

-- no events are a run, and every beginning of a run is a run: of every sheet, accepted or not
pub record RunsBegin (book : Book) (sh : Sheet) (opening depth : ℕ) : Type 0 where
  pub empty : Run sh book opening depth []
  pub front : (front back : List Event) → Run sh book opening depth (front ++ back) → Run sh book opening depth front

abbrev pub Beginnings : Book → Type 0
Beginnings book = (sh : Sheet) (opening depth : ℕ) → RunsBegin book sh opening depth

-- What one event more does to what waits, in a run of any sheet.
pub record OneMore (es : List Event) (e : Event) : Type 0 where
  -- a sending puts its message last in its channel
  pub sending : e.direction ≡ 0 → waiting e.role e.partner (es ++ (e ∷ [])) ≡ waiting e.role e.partner es ++ (message e ∷ [])
  -- a taking removes the oldest, which has its label and was sent no later
  pub taking : e.direction ≡ 1 →
      (x : Message) × (waiting e.partner e.role es ≡ x ∷ waiting e.partner e.role (es ++ (e ∷ []))) × (x.label ≡ e.label) × (x.tick ≤ e.tick) × (under_way es e ≡ e.tick - x.tick)
  -- every other channel is as it was
  pub sending_keeps : e.direction ≡ 0 → (a b : ℕ) → (a ≢ e.role) ⊎ (b ≢ e.partner) → waiting a b (es ++ (e ∷ [])) ≡ waiting a b es
  pub taking_keeps : e.direction ≡ 1 → (a b : ℕ) → (a ≢ e.partner) ⊎ (b ≢ e.role) → waiting a b (es ++ (e ∷ [])) ≡ waiting a b es
  -- and there is no third direction
  pub direction : e.direction ≤ 1

-- What waits, in a run of any sheet: at most depth messages, and what was sent is what was taken and what waits.
pub record Waits (depth : ℕ) (es : List Event) (a b : ℕ) : Type 0 where
  pub few : length (waiting a b es) ≤ depth
  pub parts : labels (sent a b es) ≡ labels (taken a b es) ++ map (λ (x : Message). x.label) (waiting a b es)

pub record WaitsByEvents (book : Book) (sh : Sheet) (opening depth : ℕ) : Type 0 where
  pub waits : (es : List Event) → Run sh book opening depth es → (a b : ℕ) → Waits depth es a b
  pub one_more : (es : List Event) (e : Event) → Run sh book opening depth (es ++ (e ∷ [])) → OneMore es e

abbrev pub ChannelsRead : Book → Type 0
ChannelsRead book = (sh : Sheet) (opening depth : ℕ) → WaitsByEvents book sh opening depth

-- some path to state s has role m's events as its whole share for it
pub record PathTo (sh : Sheet) (m : ℕ) (es : List Event) (s : ℕ) : Type 0 where
  pub path : List Place
  pub leads : PathFrom sh 0 path
  pub shares : Whole (own m es) (share m path)
  pub ends : end_of 0 path ≡ s

-- After a run, a role's set is exactly the states to which a path leads whose share for it is its events.
abbrev pub SetsRead : (Sheet → Type 0) → Book → Type 0
SetsRead Good book =
    (sh : Sheet) → Valid sh → Good sh → (opening depth : ℕ) (es : List Event) → Run sh book opening depth es →
    (m : ℕ) → m < length sh.roles → (s : ℕ) → SetAfter sh m es s ↔ PathTo sh m es s

-- Which path is taken does not matter: after a run, clocks are in their rows on every path whose shares begin with the
-- roles' events, and every such path resets each role's clock last at the same tick.
pub record PathsAgree (sh : Sheet) (book : Book) (opening depth : ℕ) (es : List Event) (r : Run sh book opening depth es) (path : List Place) (m : ℕ) : Type 0 where
  pub timely : Timely book opening (own m es) (timings (share m path))
  pub same_reset : last_reset opening (own m es) (timings (share m path)) ≡ last_reset opening (own m es) (timings (share m r.path))

abbrev pub AnyPathServes : (Sheet → Type 0) → Book → Type 0
AnyPathServes Good book =
    (sh : Sheet) → Valid sh → Good sh → (opening depth : ℕ) (es : List Event) (r : Run sh book opening depth es) →
    (path : List Place) → PathFrom sh 0 path → (m : ℕ) → Beginning (own m es) (share m path) → PathsAgree sh book opening depth es r path m

-- Closing: after events that passed, every role is finished exactly when some path to an end has every role's events as
-- its whole share.
abbrev pub Closing : Book → Type 0
Closing book =
    (sh : Sheet) → Valid sh → Accepted sh → (opening depth : ℕ) (es : List Event) (σ : Monitor) → Stands sh book opening depth es σ →
    ((m : ℕ) → m < length sh.roles → Finished sh m (InSet σ m)) ↔ Completes sh es

-- an event that names what the sheet has: roles below their count and apart, a label below its count, direction 0 or 1
pub record InRange (sh : Sheet) (e : Event) : Type 0 where
  pub role_known : e.role < length sh.roles
  pub partner_known : e.partner < length sh.roles
  pub apart : e.role ≢ e.partner
  pub label_known : e.label < length sh.labels
  pub direction_known : e.direction ≤ 1

-- no run of a valid sheet has any other event
abbrev pub RunsInRange : Book → Type 0
RunsInRange book = (sh : Sheet) → Valid sh → (opening depth : ℕ) (es : List Event) → Run sh book opening depth es → AllByRecursion (InRange sh) es

-- The lists of events that a monitor passes, one after the other, are exactly the runs.
abbrev pub PassedAreRuns : Book → Type 0
PassedAreRuns book =
    (sh : Sheet) → Valid sh → Accepted sh → (opening depth : ℕ) (es : List Event) → ((σ : Monitor) × Reached sh book opening depth es σ) ↔ Run sh book opening depth es
