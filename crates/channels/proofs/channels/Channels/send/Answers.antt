use Rattle.std.proofs.Common.{◌≡◌, ◌<◌, ◌*◌, ◌+◌, [], ◌∷◌, ◌++◌, length, ap, arith, rules}
use Rattle.std.proofs.lemmas.Result.{MatchResult-weaker}
use Rattle.channels.proofs.Rows.{channel_at, changed, put_back}
use Rattle.channels.proofs.channels.Channels.send.Goals as goal

pub returns : goal.returns
returns c =
    let ch = c.args.self.now in
    let i = c.in_ok-i.i in
    let x = c.index-self-i.result in
    let e : ((c.args.from < 6) × (c.args.to < 6)) × (i ≡ 6 * c.args.from + c.args.to) = rw c.in_ok-i.ensures.ok_part at c.index.ensures in
    let here : i < length ch.channels = search rules in
    let is = channel_at ch c.args.from c.args.to i x e.0.0 e.0.1 e.1 here in
    MatchResult-weaker c.push.result c.push.ensures
    (λ _ p. (e.0.0, e.0.1, omega (arith, p.0, ap length is), changed ch c.args.from c.args.to i x e.0.0 e.0.1 e.1 here c.push.new.self (λ l. l ++ c.args.message ∷ []) p.1))
    (λ _ p. (p.0, put_back ch i c.push.new.self x p.1, (λ _ _. omega (arith, p.2, ap length is))))
