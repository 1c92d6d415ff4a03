-- Cites a role's set by paths, at the book's rows.
use Rattle.std.proofs.Common.{refl}
use Rattle.runs.proofs.Shares.{sets_read}
use Rattle.runs.proofs.Judging.{accepted_steady}
use Rattle.runs.proofs.event_laws.sets_stand.Goals as goal

pub returns : goal.returns
returns g c = record {
  accepted = λ b sh valid accepted. sets_read (g.B.TimeBook.admits b) sh valid (accepted_steady sh accepted);
  steady = λ b. sets_read (g.B.TimeBook.admits b);
  edition = refl;
}
