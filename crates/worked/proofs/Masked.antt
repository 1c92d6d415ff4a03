-- The sets that parting finds, by computation.
use Rattle.std.proofs.Common.{◌≡◌, ℕ, zero, suc, ◌%◌, ◌^◌, ◌<◌, true, eqb, List, [], ◌∷◌, get_or, Some, None, sym, refl, ap, ◌∙◌, subst, arith}
use native.Mathlib.Nat.{div-eq_of_lt}
use Rattle.std.proofs.lemmas.Nat.{pow_below}
use Rattle.std.proofs.lemmas.Bool.{false≢true}
use Rattle.stops.specs.Stops.{stop_of}
use Rattle.parting.specs.declared.accepted.Accepted.{Accepted}
use Rattle.parting.specs.declared.fault.PartFault.{PartFault}
use Rattle.parting.specs.declared.fault.PartFault.TheVariants.{Untold}
use Rattle.parting.specs.declared.local.Part.{Part}
use Rattle.parting.specs.Blank.{no_part}
use Rattle.parting.specs.Family.{sets, view_of, start_set, label_entered, entered, visited, family_of}
use Rattle.parting.specs.Judge.{is_same_side, is_same_timing, offers, is_led_from, first_failing_point}
use Rattle.parting.specs.Masks.{has, add}
use Rattle.parting.specs.Parts.{Parted, family, part_fault}
use Rattle.parting.specs.Spread.{leaves, grow, fill, spread}
use Rattle.parting.specs.Stop.{stopped as part_stop}
use Rattle.parting.specs.Tables.{Table}
use Rattle.parting.specs.View.{places, acts_at, silent_at, leading}
use Rattle.parting.specs.Whole.{PartsOf}
use Rattle.runs.specs.Examples.{oven, untold}
use Rattle.session.specs.Kept.{no_set}
use Rattle.worked.specs.Worked.{Only, ThreeSets}

main_family : family oven 0 ≡ sets (1 ∷ 2 ∷ 4 ∷ [])
unfolding family_of start_set label_entered entered visited is_same_side is_same_timing offers is_led_from first_failing_point has add leaves grow fill spread acts_at silent_at leading
main_family = refl

pub oven_faultless : part_fault oven ≡ None
unfolding part_fault family_of start_set label_entered entered visited is_same_side is_same_timing offers is_led_from first_failing_point has add leaves grow fill spread acts_at silent_at leading
oven_faultless = refl

pub third_party : (fault : PartFault) × (part_fault untold ≡ Some fault) × (part_stop fault ≡ stop_of 24 2 0)
unfolding part_fault family_of start_set label_entered entered visited is_same_side is_same_timing offers is_led_from first_failing_point has add leaves grow fill spread acts_at silent_at leading
third_party = (Untold 2 0, refl, refl)

-- a mask of one bit
beyond : (k s : ℕ) → k < s → has (2 ^ k) s ≡ true → ⊥
unfolding has
beyond k s l q = false≢true (sym (ap (λ (n : ℕ). eqb (n % 2) 1) (div-eq_of_lt (pow_below k s l))) ∙ q)

only_0 : Only 1 0
unfolding has
only_0 zero = (λ q. refl, λ q. refl)
only_0 (suc s) = (λ q. absurd (beyond 0 (suc s) (omega arith) q), λ q. absurd (omega arith))

only_1 : Only 2 1
unfolding has
only_1 zero = (λ q. absurd (false≢true q), λ q. absurd (omega arith))
only_1 (suc zero) = (λ q. refl, λ q. refl)
only_1 (suc (suc s)) = (λ q. absurd (beyond 1 (suc (suc s)) (omega arith) q), λ q. absurd (omega arith))

only_2 : Only 4 2
unfolding has
only_2 zero = (λ q. absurd (false≢true q), λ q. absurd (omega arith))
only_2 (suc zero) = (λ q. absurd (false≢true q), λ q. absurd (omega arith))
only_2 (suc (suc zero)) = (λ q. refl, λ q. refl)
only_2 (suc (suc (suc s))) = (λ q. absurd (beyond 2 (suc (suc (suc s))) (omega arith) q), λ q. absurd (omega arith))

sets_same : (xs ys : List ℕ) → sets xs ≡ sets ys → xs ≡ ys
sets_same xs ys q = cc

in_table : (part : Part) → Table (view_of 0 (places oven)) (1 ∷ 2 ∷ 4 ∷ []) part → ThreeSets part
in_table part t = record {
  count = t.count;
  first = subst (λ (n : ℕ). Only n 0) (sym (t.each 0 (omega arith) no_set).states) only_0;
  second = subst (λ (n : ℕ). Only n 1) (sym (t.each 1 (omega arith) no_set).states) only_1;
  third = subst (λ (n : ℕ). Only n 2) (sym (t.each 2 (omega arith) no_set).states) only_2;
}

in_part : (part : Part) → Parted (view_of 0 (places oven)) 0 3 part → ThreeSets part
in_part part p = in_table part (subst (λ (xs : List ℕ). Table (view_of 0 (places oven)) xs part) (sets_same p.found (1 ∷ 2 ∷ 4 ∷ []) (sym p.are ∙ main_family)) p.table)

pub main_sets : (a : Accepted) → PartsOf oven a → ThreeSets (get_or a.parts.items 0 no_part)
main_sets a parts = in_part (get_or a.parts.items 0 no_part) (parts.found 0 (omega arith) no_part)
