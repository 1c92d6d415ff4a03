use Rattle.std.proofs.Common.{◌≡◌, drop}
use Rattle.sheet.specs.Decode.{table, state_spans}
use Rattle.sheet.specs.Refuse.{states_fault}
use Rattle.reading.proofs.places.Tiled.check_states.Given as goal

abbrev pub invariant-loop-pair : goal.invariant-loop-pair
invariant-loop-pair l = states_fault l.self.paired.counts l.self.paired.bytes.now (drop l.pair (table l.self.paired.bytes.now)) ≡ states_fault l.self.paired.counts l.self.paired.bytes.now (state_spans l.self.paired.bytes.now)
