-- Meaning: what an accepted sheet stands for.
use Rattle.std.specs.Prelude.{◌≡◌, ℕ, ◌<◌, length, Some, None, Ok, Err, Option, Result, slice_index_or}
use Rattle.sheet.specs.Model.{Sheet}
use Rattle.reading.specs.Handing.{counts_of}
use Rattle.parting.specs.declared.accepted.Accepted.{Accepted}
use Rattle.parting.specs.declared.fault.PartFault.{PartFault}
use Rattle.parting.specs.declared.local.Part.{Part}
use Rattle.parting.specs.declared.refused.Refused.{Refused}
use Rattle.parting.specs.Family.{view_of}
use Rattle.parting.specs.Local.{LocalOf}
use Rattle.parting.specs.Parts.{Parted}
use Rattle.parting.specs.View.{places}

-- it has the sheet's counts; each role's table is the role's local protocol, with the sets in the order in which they are found
pub record PartsOf (sh : Sheet) (a : Accepted) : Type 0 where
  pub counts : a.counts ≡ counts_of sh
  pub local : (m : ℕ) → m < length sh.roles → (d : Part) → LocalOf sh m (slice_index_or a.parts.items m d)
  pub found : (m : ℕ) → m < length sh.roles → (d : Part) → Parted (view_of m (places sh)) m (length sh.labels) (slice_index_or a.parts.items m d)

-- the fault that a stopped parting carries
abbrev pub fault_of : {T : Type 0} → Result T Refused → Option PartFault
fault_of (Ok x) = None
fault_of (Err e) = Some e.fault
