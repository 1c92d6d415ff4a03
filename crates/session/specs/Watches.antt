-- Meaning: how a session stands after the events that have passed in it.
use Rattle.std.specs.Prelude.{◌≡◌, ℕ, ◌<◌, ◌≤◌, List, length, slice_index_or}
use Rattle.sheet.specs.Model.{Sheet}
use Rattle.sheet.specs.Valid.{Valid}
use Rattle.protocol.specs.Accepted.{Accepted as CanBeParted}
use Rattle.parting.specs.declared.accepted.Accepted.{Accepted}
use Rattle.parting.specs.Blank.{no_part}
use Rattle.parting.specs.Whole.{PartsOf}
use Rattle.events.specs.declared.event.Event.{Event}
use Rattle.runs.specs.Run.{Book}
use Rattle.runs.specs.Stands.{Stands}
use Rattle.session.specs.declared.inner.Inner.{Inner}
use Rattle.session.specs.declared.session.Session.{Session}
use Rattle.session.specs.Kept.{record_of, monitor_of}

-- a valid sheet that is accepted, with its parts
pub record IsOf (sh : Sheet) (accepted : Accepted) : Type 0 where
  pub valid : Valid sh
  pub parted : CanBeParted sh
  pub parts : PartsOf sh accepted

-- It watches that sheet at that depth, of at most 8; each role's record numbers a set of its part; and all that is kept is read off the
-- events: the sets, the reset ticks, what is under way and the latest tick. The events are a run.
pub record Watches (sh : Sheet) (book : Book) (opening depth : ℕ) (es : List Event) (accepted : Accepted) (inner : Inner) : Type 0 where
  pub sheet : IsOf sh accepted
  pub depth_kept : inner.depth ≡ depth
  pub shallow : depth ≤ 8
  pub numbers : (m : ℕ) → m < length sh.roles → (record_of inner m).set < (slice_index_or accepted.parts.items m no_part).count
  pub stands : Stands sh book opening depth es (monitor_of accepted inner)

-- the same of a session, where `admits` says what its book admits
abbrev pub SessionWatches : {B : Type 0} → (B → Book) → Sheet → ℕ → ℕ → List Event → Session B → Type 0
SessionWatches admits sh opening depth es s = Watches sh (admits s.book) opening depth es s.accepted s.inner
