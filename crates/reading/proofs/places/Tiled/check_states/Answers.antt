use Rattle.std.proofs.Common.{◌≤◌, length, sym, ap, ◌∙◌, arith}
use Rattle.std.proofs.lemmas.List.{at_drop_all}
use Rattle.sheet.specs.Decode.{piece_count_in, table}
use Rattle.sheet.specs.Refuse.{states_fault}
use Rattle.sheet.proofs.Spans.{length-table}
use Rattle.reading.proofs.places.Tiled.check_states.Goals as goal

pub returns : goal.returns
returns c =
    let bytes = c.args.self.paired.bytes.now in
    let all : length (table bytes) ≤ c.loop-pair.pair = omega (arith, length-table bytes, c.piece_count-pair-end.ensures, ap piece_count_in c.args.self.paired.counted) in
    sym (at_drop_all (states_fault c.args.self.paired.counts bytes) (table bytes) c.loop-pair.pair all) ∙ c.loop-pair.invariant
