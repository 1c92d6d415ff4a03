use Rattle.std.proofs.Common.{ap, length, arith}
use Rattle.sheet.proofs.Clean.{length-bound}
use Rattle.reading.proofs.read.keep.Goals as goal

pub unwrap-requires : goal.unwrap-requires
unwrap-requires c = c.try_extend_from_slice.ensures.variant.1 (omega (arith, ap length c.new-own.ensures, length-bound c.args.bytes.now c.requires))
