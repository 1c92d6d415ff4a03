use Rattle.std.proofs.Common.{◌≡◌, ◌-◌}
use Rattle.parting.specs.Family.{followed}
use Rattle.parting.proofs.view.SetView.follow.Given as goal

abbrev pub invariant-loop-label : goal.invariant-loop-label
invariant-loop-label l =
    (followed l.self.silent.now l.self.acts l.label (l.labels - l.label) l.search.found.items ≡ followed l.self.silent.now l.self.acts 0 l.labels l.initial.search.found.items)
    × (l.search.judged ≡ l.initial.search.judged)
