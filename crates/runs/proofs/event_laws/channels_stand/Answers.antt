-- Cites what waits in the channels, at the book's rows.
use Rattle.runs.proofs.Channelled.{channels_read}
use Rattle.runs.proofs.event_laws.channels_stand.Goals as goal

pub returns-clause-channels : goal.returns-clause-channels
returns-clause-channels g c = λ b. channels_read (g.B.TimeBook.admits b)
