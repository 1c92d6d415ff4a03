-- Meaning: as much of soundness as the agreement of monitor and sheet needs: the fourth point is asked of a set only
-- where the role sends.
use Rattle.std.specs.Prelude.{◌≡◌, ℕ, ◌<◌, List, length}
use Rattle.sheet.specs.Model.{Sheet}
use Rattle.protocol.specs.Actions.{Action, sends}
use Rattle.protocol.specs.Sets.{Acts, Start, After, Followed}
use Rattle.protocol.specs.Sound.{OneSide, SameOffer, NoClash, Told}

pub record Steady (sh : Sheet) (m : ℕ) (X : ℕ → Type 0) : Type 0 where
  pub one_side : OneSide sh m X
  pub same_offer : SameOffer sh m X
  pub no_clash : NoClash sh m X
  pub told : (s : ℕ) → X s → (a : Action) → Acts sh m s a → a.way ≡ sends → Told sh m X

-- every set of every role is steady, however many there are
abbrev pub AllSteady : Sheet → Type 0
AllSteady sh = (m : ℕ) → m < length sh.roles → (ls : List ℕ) → Followed sh m (Start sh m) ls → Steady sh m (After sh m (Start sh m) ls)
