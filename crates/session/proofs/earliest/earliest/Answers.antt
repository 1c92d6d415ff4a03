use Rattle.std.proofs.Common.{◌≡◌, ℕ, Some, sym, ◌∙◌, subst, arith}
use Rattle.runs.specs.Laws.{Least}
use Rattle.session.specs.Earliest.{SomeMove}
use Rattle.session.proofs.Leasts.{moves_skip, moves_more}
use Rattle.session.proofs.earliest.earliest.Goals as goal
use Rattle.session.proofs.earliest.earliest.Goals.{in-Some, in_default}

pub loop-to-preserved : goal.loop-to-preserved
loop-to-preserved g c =
    let book = g.B.TimeBook.admits c.args.book.now in
    let s = c.args.set.now in
    let label = c.loop-to.to-index in
    let best = c.loop-to.best in
    elim c.match-to.branch [
      | in-Some w ↦ λ h.
          moves_more book s c.args.since c.args.latest 4294967295 label (Some w.in-Some.to) best w.next_tick.result c.match-to.best
          c.loop-to-test.true (sym w.in-Some.is) (w.best-is ∙ w.sooner-best.ensures) (c.loop-to.invariant h) (w.next_tick.ensures h)
      | in_default w ↦ λ h.
          moves_skip book s c.args.since c.args.latest 4294967295 label best c.match-to.best c.loop-to-test.true (sym w.in_default.is) w.best-is (c.loop-to.invariant h)
    ]

pub returns : goal.returns
returns g c =
    let book = g.B.TimeBook.admits c.args.book.now in
    let all : c.loop-to.to-index ≡ 32 = omega (arith, c.loop-to-test.false) in
    λ h. subst (λ (n : ℕ). Least (SomeMove book c.args.set.now c.args.since n) c.args.latest 4294967295 c.loop-to.best) all (c.loop-to.invariant h)
