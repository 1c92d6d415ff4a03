use Rattle.std.proofs.Common.{ap}
use lib.Bits.{bit_or}
use Rattle.std.proofs.lemmas.Nat.{one_shl}
use Rattle.parting.specs.Masks.{add}
use Rattle.parting.proofs.masks.with.Goals as goal

pub returns : goal.returns
unfolding add
returns c = ap (bit_or c.args.mask) (one_shl c.args.k 64 c.requires)
