-- What stands for an act past the end of a list.
use Rattle.std.proofs.Common.{false}
use Rattle.parting.specs.declared.act.Act.{Act}
use Rattle.parting.specs.declared.act.Way.TheVariants.{Sends}

abbrev pub no_act : Act
no_act = record { state = 0; way = Sends; partner = 0; label = 0; row = 0; reset = false; next = 0 }
