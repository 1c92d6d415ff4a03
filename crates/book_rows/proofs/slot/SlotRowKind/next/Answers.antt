use Rattle.book_rows.proofs.Times.{before_slot, after_slot}
use Rattle.book_rows.proofs.slot.SlotRowKind.next.Goals as goal

pub returns-then-rest-self : goal.returns-then-rest-self
returns-then-rest-self c =
    let s = c.args.self in
    before_slot s.period s.first s.width c.args.value s.legal c.checked_add.result c.if-rest-self.true c.checked_add.ensures

pub returns-else-rest-self-2 : goal.returns-else-rest-self-2
returns-else-rest-self-2 c =
    let s = c.args.self in
    after_slot s.period s.first s.width c.args.value s.legal c.checked_add-else-rest-self-2.result c.if-rest-self-2.false c.checked_add-else-rest-self-2.ensures
