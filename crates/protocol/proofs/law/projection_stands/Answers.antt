-- Cites the projection and what labels say.
use Rattle.std.proofs.Common.{refl}
use Rattle.protocol.proofs.Moves.{projects, suffice, parts_project}
use Rattle.protocol.proofs.law.projection_stands.Goals as goal

pub returns : goal.returns
returns c = record { projects = projects; suffice = suffice; parts = parts_project; edition = refl }
