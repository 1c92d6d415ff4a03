-- Cites what the events of a run name, at the book's rows.
use Rattle.runs.proofs.Ranges.{in_range}
use Rattle.runs.proofs.event_laws.ranges_stand.Goals as goal

pub returns-clause-ranges : goal.returns-clause-ranges
returns-clause-ranges g c = λ b. in_range (g.B.TimeBook.admits b)
