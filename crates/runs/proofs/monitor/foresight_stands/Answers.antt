-- Cites foresight, at the book's rows.
use Rattle.std.proofs.Common.{refl}
use Rattle.runs.proofs.Foresee.{foresight}
use Rattle.runs.proofs.Judging.{accepted_steady}
use Rattle.runs.proofs.monitor.foresight_stands.Goals as goal

pub returns : goal.returns
returns g c = record {
  accepted = λ b sh valid accepted. foresight (g.B.TimeBook.admits b) sh valid (accepted_steady sh accepted);
  steady = λ b. foresight (g.B.TimeBook.admits b);
  edition = refl;
}
