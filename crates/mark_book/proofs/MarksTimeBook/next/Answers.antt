use Rattle.std.proofs.Common.{length}
use Rattle.books.proofs.Nexts.{next_in_row}
use Rattle.mark_book.specs.Marked.{Marked}
use Rattle.mark_book.proofs.MarksTimeBook.next.Goals as goal

pub returns-then-row-self : goal.returns-then-row-self
returns-then-row-self c =
    let b = c.args.self.now in
    next_in_row b.rows c.args.row (Marked b.marks (length b.marks) c.args.row) c.if-row-self.true c.args.value c.first_from.result c.first_from.ensures
