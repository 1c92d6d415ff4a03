use Rattle.std.proofs.Common.{◌≡◌, ℕ, ◌<◌, length, get_or}
use Rattle.parting.specs.declared.local.LocalSet.{LocalSet}
use Rattle.parting.specs.Seen.{seen}
use Rattle.parting.specs.Tables.{Entry}
use Rattle.parting.proofs.tables.table.Given as goal

abbrev pub invariant-loop-i : goal.invariant-loop-i
invariant-loop-i l = record {
  slots : length l.part.sets ≡ 32;
  counted : l.part.count ≡ length l.found;
  written : (k : ℕ) → k < l.i → (d : LocalSet) → Entry (seen l.view) l.found (get_or l.found k 0) (get_or l.part.sets k d);
}
