-- Cites closing, at the book's rows.
use Rattle.runs.proofs.Ending.{closing}
use Rattle.runs.proofs.event_laws.closing_stands.Goals as goal

pub returns-clause-closes : goal.returns-clause-closes
returns-clause-closes g c = λ b. closing (g.B.TimeBook.admits b)
