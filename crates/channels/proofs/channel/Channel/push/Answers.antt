use Rattle.std.proofs.Common.{◌≡◌, ◌<◌, ◌≤◌, [], ◌∷◌, ◌++◌, length, sym, ap, ◌∙◌, arith, rules}
use Rattle.std.proofs.lemmas.Result.{err_from_is_err_and}
use Rattle.queue.specs.Ring.{held}
use Rattle.queue.proofs.Rings.{length-held}
use Rattle.channels.specs.Waiting.{waiting}
use Rattle.channels.proofs.Rows.{waiting_resumed, same_channel}
use Rattle.channels.proofs.channel.Channel.push.Goals as goal

pub returns-in_err-push : goal.returns-in_err-push
returns-in_err-push c =
    let x = c.args.self.now in
    let q = c.resume-queue.result in
    let was = c.resume-queue.ensures in
    let no = c.in_err-push.ensures in
    let eight : length x.slots ≡ 8 = search rules in
    let is = waiting_resumed x eight q.slots.now q.first q.count was.slots was.place.0 was.place.1 in
    let len : length (waiting x) ≡ q.count = ap length is ∙ length-held q.slots.now q.first q.count q.begins q.fits in
    let same = no.held.2 ∙ was.slots in
    let full : 8 ≤ length (waiting x) = let n = ap length was.slots in omega (arith, len, eight, n, no.held.1) in
    let p = err_from_is_err_and c.from_residual.result c.from_residual.ensures.1 in
    rw (p.1, p.2) (no.held.0, same_channel x _ (sym same) _ _, full)

pub returns : goal.returns
returns c =
    let x = c.args.self.now in
    let q = c.resume-queue.result in
    let was = c.resume-queue.ensures in
    let went = c.in_ok-push.ensures in
    let new = c.push.new.self in
    let eight : length x.slots ≡ 8 = search rules in
    let is = waiting_resumed x eight q.slots.now q.first q.count was.slots was.place.0 was.place.1 in
    let len : length (waiting x) ≡ q.count = ap length is ∙ length-held q.slots.now q.first q.count q.begins q.fits in
    let room : length (waiting x) < 8 = let n = ap length was.slots in omega (arith, len, eight, n, went.place.1.0) in
    (room, ap (λ f. held new.slots.now f c.of-self.result.count) c.of-self.ensures.0 ∙ ap (held new.slots.now new.first) c.of-self.ensures.1 ∙ went.held ∙ sym (ap (λ l. l ++ c.args.message ∷ []) is))
