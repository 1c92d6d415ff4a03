use Rattle.std.proofs.Common.{◌<◌, ap, arith, subst}
use Rattle.sheet.specs.Decode.{piece_count_in}
use Rattle.reading.specs.Places.{Tiled}
use Rattle.reading.proofs.Handing.{none_from_test}
use Rattle.reading.proofs.Pieces.{piece_within}
use Rattle.reading.proofs.places.Tiled.piece.Goals as goal

pub slice_bounds-bytes-end : goal.slice_bounds-bytes-end
slice_bounds-bytes-end c =
    let paired = c.args.self.paired in
    let t : Tiled paired.bytes.now = record { paired = paired.room; tiled = none_from_test _ c.args.self.tiled } in
    let h = subst (λ k. c.args.pair < piece_count_in k) paired.counted c.requires in
    let e = c.span-offset.ensures.value in
    omega (arith, piece_within paired.bytes.now t c.args.pair h, ap (λ s. s.offset) e, ap (λ s. s.size) e)
