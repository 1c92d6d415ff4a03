use Rattle.std.proofs.Common.{◌/◌, ◌^◌, eqb, ap}
use lib.Bits.{and_mask}
use Rattle.parting.specs.Masks.{has}
use Rattle.parting.proofs.masks.has.Goals as goal

pub returns : goal.returns
unfolding has
returns c = ap (λ n. eqb n 1) (and_mask (c.args.mask / 2 ^ c.args.k) 1)
