-- Computed: why a session is not opened.
use Rattle.std.specs.Prelude.{ℕ, cond, ◌||◌, Some, None, Ok, Err, Option, Result, nat_lt}
use Rattle.events.specs.declared.fault.SessionFault.{SessionFault}
use Rattle.events.specs.declared.fault.SessionFault.TheVariants.{Book, Depth}
use Rattle.session.specs.declared.unopened.Unopened.{Unopened}

-- fewer rows than the sheet counts, else a depth that is not 1 to 8
abbrev pub open_fault : ℕ → ℕ → ℕ → Option SessionFault
open_fault needed rows depth = cond (nat_lt rows needed) (Some (Book rows)) (cond (nat_lt depth 1 || nat_lt 8 depth) (Some (Depth depth)) None)

-- the fault that a stopped opening carries
abbrev pub fault_of : {S B : Type 0} → Result S (Unopened B) → Option SessionFault
fault_of (Ok s) = None
fault_of (Err e) = Some e.fault
