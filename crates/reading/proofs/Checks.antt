-- A chain of checks as tests: each check that fails gives its fault.
use Rattle.std.proofs.Common.{◌≡◌, Bool, true, false, cond, Some, Option, refl, ◌∙◌}
use Rattle.std.proofs.lemmas.Bool.{cond-true, cond-false}
use Rattle.sheet.specs.declared.fault.ReadFault.{ReadFault}
use Rattle.sheet.specs.Refuse.{unless, first}

first_unless : (holds : Bool) (fault : ReadFault) (later : Option ReadFault) → first (unless holds fault) later ≡ cond holds later (Some fault)
first_unless true fault later = refl
first_unless false fault later = refl

pub first_fails : (holds : Bool) (fault : ReadFault) (later : Option ReadFault) → holds ≡ false → first (unless holds fault) later ≡ Some fault
first_fails holds fault later e = first_unless holds fault later ∙ cond-false holds later (Some fault) e

pub first_passes : (holds : Bool) (fault : ReadFault) (later : Option ReadFault) → holds ≡ true → first (unless holds fault) later ≡ later
first_passes holds fault later e = first_unless holds fault later ∙ cond-true holds later (Some fault) e
