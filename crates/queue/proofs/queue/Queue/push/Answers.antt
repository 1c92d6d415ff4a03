use Rattle.std.proofs.Common.{◌+◌, ◌<◌, length, inl, inr, arith}
use Rattle.queue.proofs.Rings.{Next, held_push}
use Rattle.queue.proofs.queue.Queue.push.Goals as goal
use Rattle.queue.proofs.queue.Queue.push.Goals.{then-self-len-2, else-self-len-2}

pub returns-clause-held : goal.returns-clause-held
returns-clause-held g c =
    let q = c.args.self.now in
    let nx : Next (length q.slots.now) (q.first + q.count) c.if-self-len-2.at =
    elim c.if-self-len-2.branch [ then-self-len-2 w ↦ inl (omega (arith, w.at-is, w.if-self-len-2.true), w.at-is) | else-self-len-2 w ↦ inr (omega (arith, w.if-self-len-2.false), omega (arith, w.at-is, w.if-self-len-2.false)) ] in
    let begins : q.first < length q.slots.now = omega (arith, q.begins, c.if-self-len.false) in
    held_push q.slots.now q.first q.count c.if-self-len-2.at c.args.x begins c.if-self-len.false nx
