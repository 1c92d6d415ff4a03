use Rattle.std.proofs.Common.{◌≡◌, ℕ, ◌-◌, ◌<◌, length, get_or}
use Rattle.reading.specs.Reads.{sheet_of}
use Rattle.parting.specs.declared.local.Part.{Part}
use Rattle.parting.specs.Parts.{fault_from, part_fault}
use Rattle.parting.proofs.Roles.{Tabled}
use Rattle.parting.proofs.part.put_parts.Given as goal

abbrev pub invariant-loop-role : goal.invariant-loop-role
invariant-loop-role l = record {
  counted : length l.parts.items ≡ l.role;
  unfaulted : fault_from (sheet_of l.sheet) l.role (length (sheet_of l.sheet).roles - l.role) ≡ part_fault (sheet_of l.sheet);
  tabled : (m : ℕ) → m < l.role → (d : Part) → Tabled (sheet_of l.sheet) m (get_or l.parts.items m d);
}
