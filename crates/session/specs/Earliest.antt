-- Computed: when some label of a set is admitted.
use Rattle.std.specs.Prelude.{◌≡◌, ℕ, ◌-◌, ◌<◌, min, Some, None, Option}
use Rattle.parting.specs.declared.local.LocalSet.{LocalSet}
use Rattle.parting.specs.declared.local.Move.{Move}
use Rattle.runs.specs.Run.{Book}
use Rattle.session.specs.Admitted.{RowAdmits}
use Rattle.session.specs.Prepared.{move_in_set}

-- at tick t the row of some label of the set below n admits a clock that was reset at since
abbrev pub SomeMove : Book → LocalSet → ℕ → ℕ → ℕ → Type 0
SomeMove book s since n t = (label : ℕ) × (to : Move) × (label < n) × (move_in_set s label ≡ Some to) × RowAdmits book to.row (t - since)

abbrev pub sooner_of : Option ℕ → Option ℕ → Option ℕ
sooner_of None b = b
sooner_of (Some a) None = Some a
sooner_of (Some a) (Some b) = Some (min a b)
