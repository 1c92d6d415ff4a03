-- Meaning: what the code's tables stand for in the computed definitions.
use Rattle.std.specs.Prelude.{ℕ, List, Ok, Err, Result}
use Rattle.arrayvec.specs.ArrayVec.{ArrayVec}
use Rattle.parting.specs.declared.fault.PartFault.{PartFault}
use Rattle.parting.specs.declared.view.View as declared
use Rattle.parting.specs.Family.{View, Found, sets, stopped}

abbrev pub seen : declared.View → View
seen v = record { acts = v.acts; silent = v.silent; leading = v.leading }

-- the sets found, or the fault
abbrev pub found_by : {T : Type 0} → Result T PartFault → List ℕ → Found
found_by (Ok x) found = sets found
found_by (Err f) found = stopped f

abbrev pub answered : Result (ArrayVec ℕ) PartFault → Found
answered (Ok found) = sets found.items
answered (Err f) = stopped f
