-- Cites the beginnings of runs, at the book's rows.
use Rattle.runs.proofs.Fronts.{beginnings}
use Rattle.runs.proofs.event_laws.beginnings_stand.Goals as goal

pub returns-clause-begin : goal.returns-clause-begin
returns-clause-begin g c = λ b. beginnings (g.B.TimeBook.admits b)
