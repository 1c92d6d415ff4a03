use Rattle.std.proofs.Common.{arith}
use Rattle.sheet.proofs.Clean.{pairs_there}
use Rattle.reading.proofs.read_sheet.ReadSheet.counts.Goals as goal

pub counts_in-requires : goal.counts_in-requires
counts_in-requires c = omega (arith, pairs_there c.bytes.result.now c.bytes.ensures.sound)
