-- Meaning: what a monitor knows after events that are a run: all of it is read off the events.
use Rattle.std.specs.Prelude.{◌≡◌, ℕ, ◌<◌, List, [], ◌∷◌, length, Decides}
use Rattle.sheet.specs.Model.{Sheet}
use Rattle.protocol.specs.Paths.{share}
use Rattle.protocol.specs.Sets.{Start, After}
use Rattle.events.specs.declared.event.Event.{Event}
use Rattle.runs.specs.Events.{own, labels}
use Rattle.runs.specs.Run.{Book, Run, timings, last_reset}
use Rattle.runs.specs.Waiting.{waiting}
use Rattle.runs.specs.Monitor.{Monitor}

-- the tick of the last event, or the opening tick
abbrev pub last_tick : ℕ → List Event → ℕ
last_tick opening [] = opening
last_tick opening (e ∷ es) = last_tick e.tick es

-- the set of role m after its own among those events
abbrev pub SetAfter : Sheet → ℕ → List Event → ℕ → Type 0
SetAfter sh m es = After sh m (Start sh m) (labels (own m es))

-- The events are a run; each role's set is the one after its own events, and its reset tick that of its last event at
-- which its clock is reset; each channel holds what was sent and not taken; and the latest tick is the last event's.
pub record Stands (sh : Sheet) (book : Book) (opening depth : ℕ) (es : List Event) (σ : Monitor) : Type 0 where
  pub run : Run sh book opening depth es
  pub set : (m s : ℕ) → m < length sh.roles → Decides (σ.set m s) (SetAfter sh m es s)
  pub since : (m : ℕ) → m < length sh.roles → σ.since m ≡ last_reset opening (own m es) (timings (share m run.path))
  pub channel : (a b : ℕ) → a < length sh.roles → b < length sh.roles → σ.channel a b ≡ waiting a b es
  pub latest : σ.latest ≡ last_tick opening es
