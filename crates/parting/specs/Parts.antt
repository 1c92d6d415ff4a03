-- Computed: a role's part, or its fault; and the first fault of all roles.
use Rattle.std.specs.Prelude.{◌≡◌, ℕ, zero, suc, ◌+◌, ◌<◌, List, length, Some, None, Option, Result, MatchResult, slice_index_or}
use Rattle.sheet.specs.Model.{Sheet}
use Rattle.parting.specs.declared.fault.PartFault.{PartFault}
use Rattle.parting.specs.declared.local.Part.{Part}
use Rattle.parting.specs.Family.{View, view_of, Found, sets, stopped, family_of}
use Rattle.parting.specs.Tables.{Table}
use Rattle.parting.specs.View.{places}

-- the sets are found, and the part is their table
pub record Parted (v : View) (role labels : ℕ) (part : Part) : Type 0 where
  pub found : List ℕ
  pub are : family_of role v labels ≡ sets found
  pub table : Table v found part

abbrev pub PartIn : View → ℕ → ℕ → Result Part PartFault → Type 0
PartIn v role labels r = MatchResult r (Parted v role labels) (λ f. family_of role v labels ≡ stopped f)

-- each role has its part
pub record EachParted (sh : Sheet) (parts : List Part) : Type 0 where
  pub count : length parts ≡ length sh.roles
  pub each : (m : ℕ) → m < length sh.roles → (d : Part) → Parted (view_of m (places sh)) m (length sh.labels) (slice_index_or parts m d)

-- a role's sets in a sheet
abbrev pub family : Sheet → ℕ → Found
family sh m = family_of m (view_of m (places sh)) (length sh.labels)

-- the first fault of n roles, from role m on
abbrev pub fault_from : Sheet → ℕ → ℕ → Option PartFault
fault_from sh m zero = None
fault_from sh m (suc n) = elim (family sh m) [ stopped f ↦ Some f | sets found ↦ fault_from sh (m + 1) n ]

-- the first fault in the order of work: roles by number, each role's sets by number
unfoldable pub part_fault : Sheet → Option PartFault
part_fault sh = fault_from sh 0 (length sh.roles)
