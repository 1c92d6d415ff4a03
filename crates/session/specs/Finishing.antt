-- Computed: which roles are finished.
use Rattle.std.specs.Prelude.{◌≡◌, ℕ, ◌<◌, Bool, true, false, Some, None, Ok, Err, Option, Result}
use Rattle.parting.specs.declared.accepted.Accepted.{Accepted}
use Rattle.parting.specs.declared.local.LocalKind.{LocalKind}
use Rattle.parting.specs.declared.local.LocalKind.TheVariants.{Finished, Sending, Receiving}
use Rattle.parting.specs.declared.local.LocalSet.{LocalSet}
use Rattle.events.specs.declared.closing.Early.{Early}
use Rattle.session.specs.declared.inner.Inner.{Inner}
use Rattle.session.specs.Kept.{record_of}
use Rattle.session.specs.Prepared.{set_in_part}

abbrev pub finished_kind : LocalKind → Bool
finished_kind Finished = true
finished_kind (Sending partner) = false
finished_kind (Receiving partner) = false

abbrev pub finished_set : Option LocalSet → Bool
finished_set None = false
finished_set (Some s) = finished_kind s.kind

abbrev pub is_finished : Accepted → Inner → ℕ → Bool
is_finished accepted inner m = finished_set (set_in_part accepted m (record_of inner m).set)

-- all are finished, or this is the lowest that is not
abbrev pub Lowest : Accepted → Inner → Result (Unit {0}) Early → Type 0
Lowest accepted inner (Ok done) = (m : ℕ) → m < accepted.counts.roles → is_finished accepted inner m ≡ true
Lowest accepted inner (Err early) = (early.role < accepted.counts.roles) × (is_finished accepted inner early.role ≡ false) × ((m : ℕ) → m < early.role → is_finished accepted inner m ≡ true)
