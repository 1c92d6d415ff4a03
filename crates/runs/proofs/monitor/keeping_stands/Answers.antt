-- Cites what a monitor keeps, at the book's rows.
use Rattle.std.proofs.Common.{refl}
use Rattle.runs.proofs.Foresee.{keeping}
use Rattle.runs.proofs.Judging.{accepted_steady}
use Rattle.runs.proofs.monitor.keeping_stands.Goals as goal

pub returns : goal.returns
returns g c = record {
  accepted = λ b sh valid accepted. keeping (g.B.TimeBook.admits b) sh valid (accepted_steady sh accepted);
  steady = λ b. keeping (g.B.TimeBook.admits b);
  edition = refl;
}
