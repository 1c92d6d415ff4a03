-- Computed: at which ticks a role can act, by what it does in its set.
use Rattle.std.specs.Prelude.{ℕ, ◌-◌, ◌<◌, length, Some, None, Option}
use Rattle.channels.specs.Waiting.{channel, first}
use Rattle.events.specs.declared.message.Message.{Message}
use Rattle.parting.specs.declared.accepted.Accepted.{Accepted}
use Rattle.parting.specs.declared.local.LocalKind.{LocalKind}
use Rattle.parting.specs.declared.local.LocalKind.TheVariants.{Finished, Sending, Receiving}
use Rattle.parting.specs.declared.local.LocalSet.{LocalSet}
use Rattle.parting.specs.declared.local.Move.{Move}
use Rattle.runs.specs.Run.{Book}
use Rattle.session.specs.declared.inner.Inner.{Inner}
use Rattle.session.specs.Admitted.{RowAdmits}
use Rattle.session.specs.Earliest.{SomeMove}
use Rattle.session.specs.Kept.{record_of}
use Rattle.session.specs.Prepared.{set_in_part, move_in_set}

-- the move's row admits a clock that was reset at since
abbrev pub MoveAt : Book → Option Move → ℕ → ℕ → Type 0
MoveAt book None since t = ⊥
MoveAt book (Some to) since t = RowAdmits book to.row (t - since)

-- the set has a move for the oldest message
abbrev pub TakeAt : Book → LocalSet → Option Message → ℕ → ℕ → Type 0
TakeAt book s None since t = ⊥
TakeAt book s (Some x) since t = MoveAt book (move_in_set s x.label) since t

-- a sending needs room, a taking its message
abbrev pub KindAt : Book → Inner → ℕ → LocalSet → LocalKind → ℕ → Type 0
KindAt book inner m s Finished t = ⊥
KindAt book inner m s (Sending partner) t = (length (channel inner.channels m partner) < inner.depth) × SomeMove book s (record_of inner m).since 32 t
KindAt book inner m s (Receiving partner) t = TakeAt book s (first (channel inner.channels partner m)) (record_of inner m).since t

abbrev pub SetAt : Book → Inner → ℕ → Option LocalSet → ℕ → Type 0
SetAt book inner m None t = ⊥
SetAt book inner m (Some s) t = KindAt book inner m s s.kind t

-- role m can act at tick t
abbrev pub ActsAt : Book → Accepted → Inner → ℕ → ℕ → Type 0
ActsAt book accepted inner m t = SetAt book inner m (set_in_part accepted m (record_of inner m).set) t
