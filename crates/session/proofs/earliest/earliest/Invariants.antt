use Rattle.std.proofs.Common.{◌≤◌}
use Rattle.runs.specs.Laws.{Least}
use Rattle.session.specs.Earliest.{SomeMove}
use Rattle.session.proofs.earliest.earliest.Given as goal

-- the best is the least for the labels so far
abbrev pub invariant-loop-to : goal.invariant-loop-to
invariant-loop-to g l = l.since ≤ l.latest → Least (SomeMove (g.B.TimeBook.admits l.book) l.set l.since l.to-index) l.latest 4294967295 l.best
