-- Computed: whether a set is sound, point by point. That each test decides its point is a law.
use Rattle.std.specs.Prelude.{ℕ, Bool, true, false, cond, not, ◌&&◌, ◌||◌, List, [], ◌∷◌, Some, None, filter, find, Option, ◌==◌, nat_eq}
use Rattle.std.specs.Bool.{beq}
use Rattle.std.specs.List.{list_all, range_with_len}
use Rattle.parting.specs.declared.act.Act.{Act}
use Rattle.parting.specs.declared.act.Way.{Way}
use Rattle.parting.specs.declared.act.Way.TheVariants.{Sends, Receives}
use Rattle.parting.specs.declared.point.Point.{Point}
use Rattle.parting.specs.declared.point.Point.TheVariants.{Crossed, Offer, Clash, Untold}
use Rattle.parting.specs.Masks.{has, gather}

-- what a role does in the states of a set
abbrev pub in_set : ℕ → List Act → List Act
in_set mask as' = filter (λ a. has mask a.state) as'

-- the test holds of every number below n
abbrev pub every_below : (ℕ → Bool) → ℕ → Bool
every_below test n = list_all test (range_with_len 0 n)

abbrev pub sends : Way → Bool
sends Sends = true
sends Receives = false

unfoldable pub is_same_side : Act → Act → Bool
is_same_side a b = beq (sends a.way) (sends b.way) && a.partner == b.partner

-- first point
abbrev pub is_one_sided : List Act → Bool
is_one_sided [] = true
is_one_sided (a ∷ as') = list_all (is_same_side a) (a ∷ as')

-- the first act with that label
abbrev pub first_with : ℕ → List Act → Option Act
first_with label as' = find (λ a. a.label == label) as'

unfoldable pub is_same_timing : Act → Act → Bool
is_same_timing a b = a.row == b.row && beq a.reset b.reset

abbrev pub agrees : Option Act → Act → Bool
agrees None a = true
agrees (Some b) a = is_same_timing b a

-- acts with one label have one row and one reset
abbrev pub unclashed : List Act → Bool
unclashed as' = list_all (λ a. agrees (first_with a.label as') a) as'

-- the labels that a role has in a state
abbrev pub labels_of_state : ℕ → List Act → ℕ
labels_of_state s as' = gather (λ a. nat_eq a.state s) (λ a. a.label) 0 as'

-- a state in which the role does not act, or in which it has these labels
unfoldable pub offers : ℕ → List Act → ℕ → Bool
offers labels as' s = labels_of_state s as' == 0 || labels_of_state s as' == labels

-- it has the same labels in all states in which it acts, of which one is s
abbrev pub is_same_labels : ℕ → List Act → Bool
is_same_labels s as' = every_below (offers (labels_of_state s as') as') 64

-- second point, where the first holds
abbrev pub is_same_offer : List Act → Bool
is_same_offer [] = true
is_same_offer (a ∷ as') = not (sends a.way) || (is_same_labels a.state (a ∷ as') && unclashed (a ∷ as'))

-- third point, where the first holds
abbrev pub is_unclashed_list : List Act → Bool
is_unclashed_list [] = true
is_unclashed_list (a ∷ as') = sends a.way || unclashed (a ∷ as')

-- fourth point: every state of the set is one from which the role is led to act
unfoldable pub is_led_from : ℕ → ℕ → ℕ → Bool
is_led_from leading mask s = not (has mask s) || has leading s

abbrev pub told : ℕ → ℕ → Bool
told leading mask = every_below (is_led_from leading mask) 64

-- it is asked only where the role acts
abbrev pub is_told_if_acting : ℕ → ℕ → List Act → Bool
is_told_if_acting leading mask [] = true
is_told_if_acting leading mask (a ∷ as') = told leading mask

-- the point that fails first, of a set in which the role does this
unfoldable pub first_failing_point : ℕ → ℕ → List Act → Option Point
first_failing_point leading mask as' =
    cond (is_one_sided as')
    (cond (is_same_offer as')
    (cond (is_unclashed_list as')
    (cond (is_told_if_acting leading mask as') None (Some Untold)) (Some Clash)) (Some Offer)) (Some Crossed)
