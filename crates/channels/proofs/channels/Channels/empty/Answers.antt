use Rattle.channels.proofs.Rows.{nothing_waits}
use Rattle.channels.proofs.channels.Channels.empty.Goals as goal

pub returns : goal.returns
returns c = nothing_waits c.empty.result 36 c.empty.ensures
