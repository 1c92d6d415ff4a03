use Rattle.std.proofs.Common.{◌<◌, length, arith}
use Rattle.channels.specs.Waiting.{channel}
use Rattle.session.specs.Kept.{record_of}
use Rattle.session.specs.Prepared.{set_in_part}
use Rattle.session.proofs.Foretold.{sends_least}
use Rattle.session.proofs.session.Session.next.Goals as goal

pub returns-else-count-self : goal.returns-else-count-self
returns-else-count-self g c =
    let s = c.args.self.now in
    let m = c.args.role in
    let p = c.in-Sending.partner in
    let room : length (channel s.inner.channels m p) < s.inner.depth = omega (arith, c.count.ensures.value, c.if-count-self.false) in
    λ h.
    sends_least (g.B.TimeBook.admits s.book) s.inner m c.in_ok-set.set.now p (set_in_part s.accepted m (record_of s.inner m).set) s.inner.latest 4294967295 c.earliest.result
    c.in_ok-set.ensures c.in-Sending.is room (c.earliest.ensures h)
