use Rattle.std.proofs.Common.{None}
use Rattle.reading.specs.Reads.{bytes_of}
use Rattle.console.proofs.Accepting.{sheet_accepted, parting_last}
use Rattle.console.proofs.watched.accept.Goals as goal

pub returns-in-Ok : goal.returns-in-Ok
returns-in-Ok g c =
    let read = c.in_ok-sheet.ensures in
    let book = c.in_ok-book.ensures in
    let done = c.in-Ok.ensures in
    let sheet = sheet_accepted c.args.sheet.now c.in_ok-sheet.sheet c.in-Ok.accepted read.whole done.whole.0 done.whole.1 in
    record {
      judged = parting_last c.args.sheet.now (bytes_of c.in_ok-sheet.sheet) (g.B.ReadBook.refusal c.args.book.now) None read.judged read.whole.bytes_are book.judged done.judged;
      whole = (sheet.0, sheet.1, book.book.0, book.book.1);
    }
