-- Meaning: the branches that are still to come.
use Rattle.std.specs.Prelude.{List}
use Rattle.sheet.specs.declared.branch.Branch.{Branch}
use Rattle.sheet.specs.Decode.{branches}
use Rattle.reading.specs.declared.states.Branches.{Branches}

abbrev pub branches_left : Branches → List Branch
branches_left s = branches s.left.now
