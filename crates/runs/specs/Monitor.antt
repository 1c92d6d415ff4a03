-- Meaning: a monitor: what it keeps, when it passes an event, and what a pass changes.
use Rattle.std.specs.Prelude.{◌≡◌, ℕ, ◌-◌, ◌<◌, ◌≤◌, Bool, true, cond, ◌&&◌, ◌≢◌, List, [], ◌∷◌, ◌++◌, length, drop, Decides, ◌==◌}
use Rattle.sheet.specs.Model.{Sheet}
use Rattle.protocol.specs.Actions.{Way, sends, receives, Action}
use Rattle.protocol.specs.Sets.{Acts, Start, Successor}
use Rattle.events.specs.declared.event.Event.{Event}
use Rattle.runs.specs.Run.{Book, Admits, Fits}
use Rattle.events.specs.declared.message.Message.{Message}
use Rattle.runs.specs.Waiting.{message}

-- each role's set of states and the tick of its last reset, each ordered pair's channel, and the latest tick
pub record Monitor : Type 0 where
  pub set : ℕ → ℕ → Bool
  pub since : ℕ → ℕ
  pub channel : ℕ → ℕ → List Message
  pub latest : ℕ

-- the states in role m's set
abbrev pub InSet : Monitor → ℕ → ℕ → Type 0
InSet σ m s = σ.set m s ≡ true

-- at first: the start sets, the opening tick, and nothing under way
pub record Opened (sh : Sheet) (opening : ℕ) (σ : Monitor) : Type 0 where
  pub set : (m s : ℕ) → m < length sh.roles → Decides (σ.set m s) (Start sh m s)
  pub since : (m : ℕ) → m < length sh.roles → σ.since m ≡ opening
  pub channel : (a b : ℕ) → a < length sh.roles → b < length sh.roles → σ.channel a b ≡ []
  pub latest : σ.latest ≡ opening

-- in some state of X, role m acts by that action
pub record Able (sh : Sheet) (m : ℕ) (X : ℕ → Type 0) (a : Action) : Type 0 where
  pub state : ℕ
  pub inside : X state
  pub acts : Acts sh m state a

-- a sending finds room in its channel; a taking finds its label oldest in its
abbrev pub Room : ℕ → Monitor → Event → Way → Type 0
Room depth σ e sends = length (σ.channel e.role e.partner) < depth
Room depth σ e receives = (x : Message) × (rest : List Message) × (σ.channel e.partner e.role ≡ x ∷ rest) × (x.label ≡ e.label)

-- The event passes. Every field but the action is the opposite of one refusal, in the order of their numbers.
pub record Passes (sh : Sheet) (book : Book) (depth : ℕ) (σ : Monitor) (e : Event) : Type 0 where
  pub role_known : e.role < length sh.roles
  pub partner_known : e.partner < length sh.roles
  pub apart : e.role ≢ e.partner
  pub label_known : e.label < length sh.labels
  pub direction_known : e.direction ≤ 1
  pub in_time : σ.latest ≤ e.tick
  pub action : Action
  pub able : Able sh e.role (InSet σ e.role) action
  pub fits : Fits e action
  pub room : Room depth σ e action.way
  pub holds : Admits book action.timing (e.tick - σ.since e.role)

-- a channel after the event: a sending puts its message last, a taking removes the oldest
abbrev pub channel_after : (ℕ → ℕ → List Message) → Event → Way → ℕ → ℕ → List Message
channel_after channel e sends a b = cond (a == e.role && b == e.partner) (channel a b ++ (message e ∷ [])) (channel a b)
channel_after channel e receives a b = cond (a == e.partner && b == e.role) (drop 1 (channel a b)) (channel a b)

-- a passed event that is that action takes the monitor from σ to τ
pub record Changes (sh : Sheet) (σ : Monitor) (e : Event) (a : Action) (τ : Monitor) : Type 0 where
  pub set : (s : ℕ) → Decides (τ.set e.role s) (Successor sh e.role (InSet σ e.role) e.label s)
  pub set_kept : (m s : ℕ) → m < length sh.roles → m ≢ e.role → τ.set m s ≡ σ.set m s
  pub since : τ.since e.role ≡ cond a.timing.reset e.tick (σ.since e.role)
  pub since_kept : (m : ℕ) → m < length sh.roles → m ≢ e.role → τ.since m ≡ σ.since m
  pub channel : (b c : ℕ) → b < length sh.roles → c < length sh.roles → τ.channel b c ≡ channel_after σ.channel e a.way b c
  pub latest : τ.latest ≡ e.tick

-- a monitor after events that all passed, one after the other
pub data Reached (sh : Sheet) (book : Book) (opening depth : ℕ) : List Event → Monitor → Type 0 where
  opened : {σ : Monitor} → Opened sh opening σ → Reached sh book opening depth [] σ
  passed : {es : List Event} {σ τ : Monitor} (e : Event) → Reached sh book opening depth es σ → (p : Passes sh book depth σ e) → Changes sh σ e p.action τ → Reached sh book opening depth (es ++ (e ∷ [])) τ
