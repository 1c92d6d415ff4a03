use Rattle.std.proofs.Common.{◌≡◌, ◌+◌, ◌-◌, ◌<◌, length, ap, ◌∙◌, inl, inr, arith}
use Rattle.queue.specs.Ring.{held}
use Rattle.queue.proofs.Rings.{Next, held_pop, some_held, oldest_slot}
use Rattle.queue.proofs.queue.Queue.pop.Goals as goal
use Rattle.queue.proofs.queue.Queue.pop.Goals.{then-next-self, else-next-self}

pub overflow_sub-self : goal.overflow_sub-self
overflow_sub-self g c =
    let q = c.args.self.now in
    omega (arith, some_held q.slots.now q.first q.count c.in_ok-x.x q.begins q.fits c.in_ok-x.ensures)

pub invariant_of-self : goal.invariant_of-self
invariant_of-self g c =
    let q = c.args.self.now in
    let some = some_held q.slots.now q.first q.count c.in_ok-x.x q.begins q.fits c.in_ok-x.ensures in
    record {
      begins = elim c.if-next-self.branch [ then-next-self w ↦ omega (arith, w.self-is) | else-next-self w ↦ omega (arith, some, q.begins, q.fits, w.if-next-self.false, w.self-is) ];
      fits = omega (arith, q.fits);
    }

pub returns-clause-held : goal.returns-clause-held
returns-clause-held g c =
    let q = c.args.self.now in
    let x = c.in_ok-x.x in
    let some = some_held q.slots.now q.first q.count x q.begins q.fits c.in_ok-x.ensures in
    let begins : q.first < length q.slots.now = omega (arith, q.begins, q.fits, some) in
    let nx : Next (length q.slots.now) (q.first + 1) c.if-next-self.self =
    elim c.if-next-self.branch [ then-next-self w ↦ inr (omega (arith, w.if-next-self.true), omega (arith, w.self-is, w.if-next-self.true)) | else-next-self w ↦ inl (omega (arith, w.if-next-self.false, begins), w.self-is) ] in
    let less : q.count - 1 < length q.slots.now = omega (arith, q.fits, begins) in
    let one = ap (held q.slots.now q.first) (let e : q.count ≡ q.count - 1 + 1 = omega (arith, some) in e) in
    one ∙ held_pop q.slots.now q.first (q.count - 1) c.if-next-self.self x begins less (oldest_slot q.slots.now q.first q.count x q.begins q.fits c.in_ok-x.ensures) nx
