-- Meaning: what a sheet says, apart from its bytes.
use Rattle.std.specs.Prelude.{ℕ, List}
use Rattle.sheet.specs.declared.branch.Branch.{Branch}

abbrev pub Name : Type 0
Name = List ℕ

-- an end, or an exchange: one role sends another one of the branches' labels
pub data State : Type 0 where
  ended : State
  exchange : (sender receiver : ℕ) → List Branch → State

-- names of roles and labels, the states (the first is the start), and how many time rows there are
pub record Sheet : Type 0 where
  pub roles : List Name
  pub labels : List Name
  pub states : List State
  pub rows : ℕ
