-- Cites that any path will do, at the book's rows.
use Rattle.std.proofs.Common.{refl}
use Rattle.runs.proofs.AnyPath.{any_path}
use Rattle.runs.proofs.Judging.{accepted_steady}
use Rattle.runs.proofs.event_laws.paths_stand.Goals as goal

pub returns : goal.returns
returns g c = record {
  accepted = λ b sh valid accepted. any_path (g.B.TimeBook.admits b) sh valid (accepted_steady sh accepted);
  steady = λ b. any_path (g.B.TimeBook.admits b);
  edition = refl;
}
