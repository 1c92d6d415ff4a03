-- Meaning: the entries of the tables that count.
use Rattle.std.specs.Prelude.{List, take}
use Rattle.parting.specs.declared.accepted.Accepted.{Accepted}
use Rattle.parting.specs.declared.local.LocalSet.{LocalSet}
use Rattle.parting.specs.declared.local.Part.{Part}

-- the parts of its roles
abbrev pub parts_in : Accepted → List Part
parts_in a = a.parts.items

-- the sets that were found
abbrev pub sets_in : Part → List LocalSet
sets_in part = take part.count part.sets
