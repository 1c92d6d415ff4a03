use Rattle.std.proofs.Common.{◌≡◌, ◌-◌}
use Rattle.parting.specs.Family.{explored, family_of}
use Rattle.parting.specs.Seen.{seen}
use Rattle.parting.proofs.role.Role.sets.Given as goal

abbrev pub invariant-loop-set : goal.invariant-loop-set
invariant-loop-set l =
    explored l.self.number (seen l.self.view) l.self.labels (33 - l.search.judged) l.search.judged l.search.found.items ≡ family_of l.self.number (seen l.self.view) l.self.labels

abbrev pub decreases-loop-set : goal.decreases-loop-set
decreases-loop-set l = 33 - l.search.judged
