-- Cites that what passes is what runs, at the book's rows.
use Rattle.runs.proofs.Exact.{passed_are_runs}
use Rattle.runs.proofs.monitor.passing_stands.Goals as goal

pub returns-clause-exact : goal.returns-clause-exact
returns-clause-exact g c = λ b. passed_are_runs (g.B.TimeBook.admits b)
