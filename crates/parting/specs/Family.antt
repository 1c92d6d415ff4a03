-- Computed: a role's sets in the order in which they are found, or the fault that stops the finding.
use Rattle.std.specs.Prelude.{ℕ, zero, suc, ◌+◌, cond, List, [], ◌∷◌, ◌++◌, length, is_some, Some, None, Option, Ok, Err, Result, ◌==◌, nat_eq, nat_lt, slice_index}
use Rattle.protocol.specs.Places.{Place}
use Rattle.parting.specs.declared.act.Act.{Act}
use Rattle.parting.specs.declared.edge.Edge.{Edge}
use Rattle.parting.specs.declared.fault.PartFault.{PartFault}
use Rattle.parting.specs.declared.fault.PartFault.TheVariants as fault
use Rattle.parting.specs.declared.point.Point.{Point}
use Rattle.parting.specs.declared.point.Point.TheVariants.{Crossed, Offer, Clash, Untold}
use Rattle.parting.specs.Masks.{add, gather}
use Rattle.parting.specs.Spread.{spread}
use Rattle.parting.specs.View.{acts, silent_edges, leading}
use Rattle.parting.specs.Judge.{in_set, first_with, first_failing_point}

-- one role's view of a sheet: what it does, the steps in which it has no part, and the states from which it is led to act
pub record View : Type 0 where
  pub acts : List Act
  pub silent : List Edge
  pub leading : ℕ

abbrev pub view_of : ℕ → List Place → View
view_of m ps = record { acts = acts m ps; silent = silent_edges m ps; leading = leading m ps }

-- the set in which the role starts
unfoldable pub start_set : View → ℕ
start_set v = spread v.silent (add 0 0)

-- where the acts with that label lead
abbrev pub ends : ℕ → List Act → ℕ
ends label as' = gather (λ a. nat_eq a.label label) (λ a. a.next) 0 as'

-- the successor of a set under a label
unfoldable pub successor : View → ℕ → ℕ → ℕ
successor v mask label = spread v.silent (ends label (in_set mask v.acts))

-- where a set stands among those found; their number, where it does not
abbrev pub position : ℕ → List ℕ → ℕ
position mask [] = 0
position mask (found ∷ more) = cond (found == mask) 0 (suc (position mask more))

-- what was found, or nothing where there was no room
abbrev pub outcome : {T E : Type 0} → Result T E → List ℕ → Option (List ℕ)
outcome (Ok x) found = Some found
outcome (Err e) found = None

-- one more set at the end, unless it was found before; there may be 32
unfoldable pub entered : List ℕ → ℕ → Option (List ℕ)
entered sets mask =
    cond (nat_lt (position mask sets) (length sets)) (Some sets)
    (cond (nat_lt (length sets) 32) (Some (sets ++ mask ∷ [])) None)

-- the successor under that label, where the role has an act with it
unfoldable pub label_entered : List Edge → List Act → List ℕ → ℕ → Option (List ℕ)
label_entered silent as' sets label = cond (is_some (first_with label as')) (entered sets (spread silent (ends label as'))) (Some sets)

-- the successors of a set in which the role does this, under n labels, from that label on
abbrev pub followed : List Edge → List Act → ℕ → ℕ → List ℕ → Option (List ℕ)
followed silent as' label zero sets = Some sets
followed silent as' label (suc n) sets = elim (label_entered silent as' sets label) [ None ↦ None | Some more ↦ followed silent as' (label + 1) n more ]

-- a role's sets, or the fault
pub data Found : Type 0 where
  sets : List ℕ → Found
  stopped : PartFault → Found

abbrev pub fault_of_point : Point → ℕ → ℕ → PartFault
fault_of_point Crossed role set = fault.Crossed role set
fault_of_point Offer role set = fault.Offer role set
fault_of_point Clash role set = fault.Clash role set
fault_of_point Untold role set = fault.Untold role set

abbrev pub found_or : PartFault → Option (List ℕ) → Found
found_or f None = stopped f
found_or f (Some more) = sets more

abbrev pub unless : Option Point → ℕ → ℕ → Found → Found
unless None role set found = found
unless (Some point) role set found = stopped (fault_of_point point role set)

-- a set is judged, then followed: set k, in whose states the role does this
unfoldable pub visited : ℕ → View → ℕ → ℕ → ℕ → List ℕ → Found
visited role v labels k mask found =
    unless (first_failing_point v.leading mask (in_set mask v.acts)) role k
    (found_or (fault.Sets role k) (followed v.silent (in_set mask v.acts) 0 labels found))

-- set k and those after it
abbrev pub explored : ℕ → View → ℕ → ℕ → ℕ → List ℕ → Found
explored role v labels zero k found = sets found
explored role v labels (suc n) k found =
    cond (nat_lt k (length found))
    (elim (visited role v labels k (slice_index found k) found) [ stopped f ↦ stopped f | sets more ↦ explored role v labels n (k + 1) more ])
    (sets found)

-- the sets of a role, of which there may be 32
unfoldable pub family_of : ℕ → View → ℕ → Found
family_of role v labels = explored role v labels 33 0 (start_set v ∷ [])
