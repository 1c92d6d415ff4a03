-- Meaning: a branch together with the state in which it stands.
use Rattle.std.specs.Prelude.{◌≡◌, ℕ, List, slice_index_or}
use mathlib.Core.List.{Memᴰ}
use Rattle.sheet.specs.declared.branch.Branch.{Branch}
use Rattle.sheet.specs.Model.{Sheet, ended, exchange}

pub record Place : Type 0 where
  pub state : ℕ
  pub sender : ℕ
  pub receiver : ℕ
  pub branch : Branch

-- p is a place of the sheet
pub record Has (sh : Sheet) (p : Place) : Type 0 where
  pub branches : List Branch
  pub stands : slice_index_or sh.states p.state ended ≡ exchange p.sender p.receiver branches
  pub among : Memᴰ p.branch branches
