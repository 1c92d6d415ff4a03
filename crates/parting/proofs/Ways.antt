-- The derived comparison of ways is that of their sides.
use Rattle.std.proofs.Common.{◌≡◌, refl}
use mathlib.Core.Bool.{beq}
use denote.Enum.Bare.{sameb}
use Rattle.parting.specs.declared.act.Way.{Way}
use Rattle.parting.specs.declared.act.Way.TheVariants.{Sends, Receives}
use Rattle.parting.specs.contracts.act.Way.{the_type}
use Rattle.parting.specs.Judge.{sends}

pub way_eq : (v w : Way) → sameb the_type v w ≡ beq (sends v) (sends w)
way_eq Sends Sends = refl
way_eq Sends Receives = refl
way_eq Receives Sends = refl
way_eq Receives Receives = refl
