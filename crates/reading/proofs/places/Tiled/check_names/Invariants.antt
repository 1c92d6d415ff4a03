use Rattle.std.proofs.Common.{◌≡◌, [], map}
use Rattle.std.specs.List.{between}
use Rattle.sheet.specs.Decode.{table, cut}
use Rattle.sheet.specs.Refuse.{name_fault}
use Rattle.reading.proofs.places.Tiled.check_names.Given as goal

abbrev pub invariant-loop-pair : goal.invariant-loop-pair
invariant-loop-pair l =
    name_fault l.self.paired.bytes.now l.pair (map (cut l.self.paired.bytes.now) (between l.first l.pair (table l.self.paired.bytes.now))) (between l.pair l.end (table l.self.paired.bytes.now))
    ≡ name_fault l.self.paired.bytes.now l.first [] (between l.first l.end (table l.self.paired.bytes.now))
