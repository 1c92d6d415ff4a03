-- Meaning: when a sheet can be parted.
use Rattle.std.specs.Prelude.{ℕ, ◌<◌, ◌≤◌, Bool, false, List, length, Decides, slice_index_or}
use Rattle.sheet.specs.Model.{Sheet}
use Rattle.protocol.specs.Sets.{Start, After, Followed}
use Rattle.protocol.specs.Sound.{Sound}

-- Role m has a part: its sets, which are those after any labels that can be followed, are all sound, and at most 32.
pub record HasPart (sh : Sheet) (m : ℕ) : Type 0 where
  pub sound : (labels : List ℕ) → Followed sh m (Start sh m) labels → Sound sh m (After sh m (Start sh m) labels)
  pub sets : List (ℕ → Bool)
  pub few : length sets ≤ 32
  pub all : (labels : List ℕ) → Followed sh m (Start sh m) labels →
      (i : ℕ) × (i < length sets) × ((s : ℕ) → Decides (slice_index_or sets i (λ _. false) s) (After sh m (Start sh m) labels s))

-- every role has a part
abbrev pub Accepted : Sheet → Type 0
Accepted sh = (m : ℕ) → m < length sh.roles → HasPart sh m
