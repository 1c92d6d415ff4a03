use Rattle.std.proofs.Common.{◌≡◌, ℕ, ◌-◌, [], length, take}
use Rattle.sheet.specs.Model.{Sheet}
use Rattle.session.specs.Calls.{Prescribed, passed, calls}
use Rattle.session.specs.Watches.{SessionWatches}
use Rattle.session.proofs.watch.watch.Given as goal

-- the calls, the sheet and the book are as they were; what is answered is prescribed, and the session stands after what passed
abbrev pub invariant-loop-i : goal.invariant-loop-i
invariant-loop-i g l = record {
  asked : calls l.log ≡ calls l.initial.log;
  sheet : l.session.accepted ≡ l.initial.session.accepted;
  book : l.session.book ≡ l.initial.session.book;
  whole : (sh : Sheet) (opening depth : ℕ) → SessionWatches g.B.TimeBook.admits sh opening depth [] l.initial.session
      → Prescribed sh (g.B.TimeBook.admits l.initial.session.book) opening depth [] (take l.i l.log)
      × SessionWatches g.B.TimeBook.admits sh opening depth (passed [] (take l.i l.log)) l.session;
}

abbrev pub decreases-loop-i : goal.decreases-loop-i
decreases-loop-i g l = length l.log - l.i
