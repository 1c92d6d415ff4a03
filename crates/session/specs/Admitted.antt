-- Meaning: when a row admits a clock's value, and what a session decides of an event.
use Rattle.std.specs.Prelude.{◌≡◌, ℕ, ◌-◌, ◌⊎◌, Ok, Err, Result}
use Rattle.events.specs.declared.event.Event.{Event}
use Rattle.parting.specs.declared.accepted.Accepted.{Accepted}
use Rattle.runs.specs.Run.{Book}
use Rattle.events.specs.declared.fault.SessionFault.{SessionFault}
use Rattle.events.specs.declared.fault.SessionFault.TheVariants.{Time}
use Rattle.session.specs.declared.inner.Inner.{Inner}
use Rattle.session.specs.declared.step.Step.{Step}
use Rattle.session.specs.Kept.{record_of}
use Rattle.session.specs.Prepared.{prepared}

-- row 255 admits every value
abbrev pub RowAdmits : Book → ℕ → ℕ → Type 0
RowAdmits book row value = (row ≡ 255) ⊎ book row value

-- the role's clock is in the row of the step
abbrev pub Timed : Book → Inner → Event → Step → Type 0
Timed book inner e step = RowAdmits book step.to.row (e.tick - (record_of inner e.role).since)

-- it was prepared, and its row admits the clock's value; or it is stopped: as it was prepared, or for the time
abbrev pub Judged : Book → Accepted → Inner → Event → Result Step SessionFault → Type 0
Judged book accepted inner e (Ok step) = (prepared accepted inner e ≡ Ok step) × Timed book inner e step
Judged book accepted inner e (Err fault) =
    (prepared accepted inner e ≡ Err fault) ⊎
    ((fault ≡ Time e.role e.label) × (step : Step) × (prepared accepted inner e ≡ Ok step) × (Timed book inner e step → ⊥))
