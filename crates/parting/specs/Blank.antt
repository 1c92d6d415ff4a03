-- Meaning: what stands for a part past the end of a list. It is never read: see the bounds where it is cited.
use Rattle.std.specs.Prelude.{[]}
use Rattle.parting.specs.declared.local.Part.{Part}

abbrev pub no_part : Part
no_part = record { sets = []; count = 0 }
