-- Cites agreement, at the book's rows.
use Rattle.std.proofs.Common.{refl}
use Rattle.runs.proofs.Agree.{agreement}
use Rattle.runs.proofs.Judging.{accepted_steady}
use Rattle.runs.proofs.monitor.agreement_stands.Goals as goal

pub returns : goal.returns
returns g c = record {
  accepted = λ b sh valid accepted. agreement (g.B.TimeBook.admits b) sh valid (accepted_steady sh accepted);
  steady = λ b. agreement (g.B.TimeBook.admits b);
  wider = accepted_steady;
  edition = refl;
}
