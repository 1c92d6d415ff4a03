use Rattle.std.proofs.Common.{drop, sym, refl, ap, ◌∙◌, rules}
use Rattle.channels.specs.Waiting.{first}
use Rattle.channels.proofs.Rows.{channel_at, no_channel, changed, unchanged}
use Rattle.channels.proofs.channels.Channels.take.Goals as goal

pub returns-in_err-self-clause-answer : goal.returns-in_err-self-clause-answer
returns-in_err-self-clause-answer c = c.from_residual.ensures ∙ sym (ap first (no_channel c.args.self.now c.args.from c.args.to c.in_err-self.ensures))

pub returns-in_err-self-clause-rest : goal.returns-in_err-self-clause-rest
returns-in_err-self-clause-rest c = unchanged c.args.self.now c.args.self.now c.args.from c.args.to refl (no_channel c.args.self.now c.args.from c.args.to c.in_err-self.ensures)

pub returns-clause-answer : goal.returns-clause-answer
returns-clause-answer c =
    let e = c.in_ok-self.ensures in
    c.pop.ensures.answer ∙ sym (ap first (channel_at c.args.self.now c.args.from c.args.to c.in_ok-self.field-0 c.index-self-branch.result e.0.0 e.0.1 e.1 (search rules)))

pub returns-clause-rest : goal.returns-clause-rest
returns-clause-rest c =
    let e = c.in_ok-self.ensures in
    changed c.args.self.now c.args.from c.args.to c.in_ok-self.field-0 c.index-self-branch.result e.0.0 e.0.1 e.1 (search rules) c.pop.new.self (drop 1) c.pop.ensures.rest
