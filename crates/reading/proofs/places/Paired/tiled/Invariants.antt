use Rattle.std.proofs.Common.{◌≡◌, ◌≤◌, drop}
use Rattle.sheet.specs.Decode.{table}
use Rattle.sheet.specs.Refuse.{pair_fault, table_fault}
use Rattle.reading.proofs.places.Paired.tiled.Given as goal

abbrev pub invariant-loop-pair : goal.invariant-loop-pair
invariant-loop-pair l =
    (pair_fault l.limit l.names l.pair l.at (drop l.pair (table l.self.bytes.now)) ≡ table_fault l.self.bytes.now)
    × (l.at ≤ l.limit)
