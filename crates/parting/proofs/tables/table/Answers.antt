use Rattle.std.proofs.Common.{arith}
use Rattle.parting.proofs.tables.table.Goals as goal

pub returns : goal.returns
returns c = record { count = c.loop-i.invariant.counted; each = λ i h d. c.loop-i.invariant.written i (omega arith) d }
