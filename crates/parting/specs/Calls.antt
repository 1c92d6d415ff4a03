-- Meaning: what the calls of a closure give.
use Rattle.std.specs.Prelude.{◌≡◌, List, Option}
use Rattle.std.specs.Borrow.{Bor}
use Rattle.parting.specs.Lists.{listed}

-- each call gives what h says of the value that it is lent
abbrev pub ComputesAt : {A B : Type 0} → (Bor A → B → Type 0) → (A → B) → Type 0
ComputesAt {A} {B} post h = (x : Bor A) (y : B) → post x y → y ≡ h x.now

-- each call gives what h lists: one element, or none
abbrev pub GivesListed : {A B : Type 0} → (A → Option B → Type 0) → (A → List B) → Type 0
GivesListed {A} {B} post h = (x : A) (y : Option B) → post x y → listed y ≡ h x
