-- Meaning: the fault that a result carries.
use Rattle.std.specs.Prelude.{Some, None, Ok, Err, Option, Result}

abbrev pub fault_of : {T F : Type 0} → Result T F → Option F
fault_of (Ok x) = None
fault_of (Err fault) = Some fault
