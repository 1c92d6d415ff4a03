use Rattle.std.proofs.Common.{rules}
use Rattle.std.proofs.lemmas.Option.{IfSome_then}
use Rattle.channels.proofs.Rows.{oldest_if}
use Rattle.channels.proofs.channel.Channel.oldest.Goals as goal

pub returns : goal.returns
returns c = oldest_if c.args.self.now (record { label = 0; tick = 0 }) (search rules) c.then.result c.then.ensures.variant (IfSome_then c.then.result c.then.ensures.some (λ m at. search rules))
