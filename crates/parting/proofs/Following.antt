-- Following a set, one label after the other.
use Rattle.std.proofs.Common.{◌≡◌, ℕ, suc, ◌+◌, ◌-◌, ◌<◌, ◌≤◌, List, get_or, Some, None, Ok, Err, Result, sym, ap, ◌∙◌, arith, MatchResult}
use Rattle.std.specs.Result.{IsErrAnd}
use Rattle.parting.specs.declared.act.Act.{Act}
use Rattle.parting.specs.declared.edge.Edge.{Edge}
use Rattle.parting.specs.declared.fault.PartFault.{PartFault}
use Rattle.parting.specs.declared.fault.PartFault.TheVariants.{Sets}
use Rattle.parting.specs.declared.point.Point.{Point}
use Rattle.parting.specs.Family.{View, outcome, label_entered, followed, stopped, fault_of_point, found_or, visited}
use Rattle.parting.specs.Judge.{in_set, first_failing_point}
use Rattle.parting.specs.Seen.{found_by}

module _ (silent : List Edge) (as' : List Act) where
  pub followed_some : (label n : ℕ) (fs more : List ℕ) → label_entered silent as' fs label ≡ Some more → followed silent as' label (suc n) fs ≡ followed silent as' (label + 1) n more
  followed_some label n fs more e = rw (e, followed)

  pub followed_none : (label n : ℕ) (fs : List ℕ) → label_entered silent as' fs label ≡ None → followed silent as' label (suc n) fs ≡ None
  followed_none label n fs e = rw (e, followed)

  -- the same, with the labels that are left counted from their end
  pub follows_some : (label labels : ℕ) (fs more : List ℕ) → label < labels → label_entered silent as' fs label ≡ Some more
      → followed silent as' label (labels - label) fs ≡ followed silent as' (label + 1) (labels - (label + 1)) more
  follows_some label labels fs more h e =
      let n : labels - label ≡ suc (labels - (label + 1)) = omega arith in
      ap (λ k. followed silent as' label k fs) n ∙ followed_some label (labels - (label + 1)) fs more e

  pub follows_none : (label labels : ℕ) (fs : List ℕ) → label < labels → label_entered silent as' fs label ≡ None → followed silent as' label (labels - label) fs ≡ None
  follows_none label labels fs h e =
      let n : labels - label ≡ suc (labels - (label + 1)) = omega arith in
      ap (λ k. followed silent as' label k fs) n ∙ followed_none label (labels - (label + 1)) fs e

  pub follows_all : (label labels : ℕ) (fs : List ℕ) → labels ≤ label → followed silent as' label (labels - label) fs ≡ Some fs
  follows_all label labels fs h = let n : labels - label ≡ 0 = omega arith in ap (λ k. followed silent as' label k fs) n

-- a set is judged, then followed
module _ (role : ℕ) (v : View) (labels k mask : ℕ) (found : List ℕ) (as' : List Act) (are : as' ≡ in_set mask v.acts) where
  pub visited_point : (point : Point) → first_failing_point v.leading mask as' ≡ Some point → visited role v labels k mask found ≡ stopped (fault_of_point point role k)
  unfolding visited
  visited_point point e = rw (← are, e)

  pub visited_follows : first_failing_point v.leading mask as' ≡ None → visited role v labels k mask found ≡ found_or (Sets role k) (followed v.silent as' 0 labels found)
  unfolding visited
  visited_follows e = rw (← are, e)

-- no room is the fault of that set
pub mapped : {T E : Type 0} (r : Result T E) (out : Result T PartFault) (f : PartFault) (found : List ℕ) (post : E → PartFault → Type 0)
    → MatchResult r (λ x. out ≡ Ok x) (λ e. IsErrAnd out (post e)) → ((e : E) (d : PartFault) → post e d → d ≡ f) → found_by out found ≡ found_or f (outcome r found)
mapped (Ok x) out f found post e is = rw e
mapped (Err x) (Ok y) f found post e is = elim e [ ]
mapped (Err x) (Err d) f found post e is = ap stopped (is x d e)

-- the visit of the set that comes next
pub turn_is : (role : ℕ) (v : View) (labels k set states : ℕ) (found same : List ℕ) → set ≡ k → get_or found set 0 ≡ states → same ≡ found
    → visited role v labels k (get_or found k 0) found ≡ visited role v labels set states same
turn_is role v labels k set states found same p q e =
    ap (λ n. visited role v labels n (get_or found n 0) found) (sym p) ∙ ap (λ m. visited role v labels set m found) q ∙ ap (visited role v labels set states) (sym e)
