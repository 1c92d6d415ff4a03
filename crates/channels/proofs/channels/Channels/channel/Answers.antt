use Rattle.std.proofs.Common.{◌<◌, Option, None, Some, length, ap, sym, ◌∙◌, rules}
use Rattle.std.specs.Option.{IsSome, IfSome, MatchOption}
use Rattle.channels.specs.Waiting.{waiting}
use Rattle.channels.proofs.Rows.{channel_at, no_channel}
use Rattle.channels.proofs.channels.Channels.channel.Goals as goal

there : {X : Type 0} (o : Option X) (N : Type 0) {P Q : X → Type 0} → IsSome o → IfSome o P → ((x : X) → P x → Q x) → MatchOption o N Q
there None N some p f = absurd (cc)
there (Some x) N some p f = f x p

pub returns-in_err-index : goal.returns-in_err-index
returns-in_err-index c = rw c.from_residual.ensures (no_channel c.args.self.now c.args.from c.args.to c.in_err-index.ensures)

pub returns : goal.returns
returns c =
    let i = c.in_ok-index.ensures in
    let here : c.in_ok-index.field-0 < length c.args.self.now.channels = search rules in
    let got = c.get.ensures.lookup in
    there c.get.result _ (got.2 here) got.1 (λ line is. channel_at c.args.self.now c.args.from c.args.to c.in_ok-index.field-0 line.now i.0.0 i.0.1 i.1 here ∙ sym (ap waiting is))
