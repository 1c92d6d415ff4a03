-- Meaning: what a role's sets have to do with the paths of the sheet.
use Rattle.std.specs.Prelude.{◌≡◌, ℕ, ◌↔◌, List, [], ◌∷◌, ◌++◌, map}
use Rattle.sheet.specs.Model.{Sheet}
use Rattle.sheet.specs.Valid.{Valid}
use Rattle.protocol.specs.Actions.{Way, Action}
use Rattle.protocol.specs.Places.{Place}
use Rattle.protocol.specs.Paths.{PathFrom, end_of, share}
use Rattle.protocol.specs.Sets.{Acts, Start, Successor, After, Followed}
use Rattle.protocol.specs.Sound.{OneSide}
use Rattle.protocol.specs.Accepted.{HasPart}

-- what others see of an action: its timing left out
pub record Move : Type 0 where
  pub way : Way
  pub partner : ℕ
  pub label : ℕ

abbrev pub move : Action → Move
move a = record { way = a.way; partner = a.partner; label = a.label }

abbrev pub moves : List Action → List Move
moves actions = map move actions

abbrev pub label_of : Move → ℕ
label_of v = v.label

abbrev pub labels : List Move → List ℕ
labels vs = map label_of vs

-- in some state of X, role m acts by that move
pub record Does (sh : Sheet) (m : ℕ) (X : ℕ → Type 0) (v : Move) : Type 0 where
  pub state : ℕ
  pub inside : X state
  pub action : Action
  pub acts : Acts sh m state action
  pub is : move action ≡ v

-- role m can make the moves one after the other from X
abbrev pub Played : Sheet → ℕ → (ℕ → Type 0) → List Move → Type 0
Played sh m X [] = Unit {0}
Played sh m X (v ∷ vs) = Does sh m X v × Played sh m (Successor sh m X v.label) vs

-- some path from the start has the moves as the beginning of role m's share
pub record BeginsShare (sh : Sheet) (m : ℕ) (vs : List Move) : Type 0 where
  pub path : List Place
  pub leads : PathFrom sh 0 path
  pub rest : List Move
  pub begins : moves (share m path) ≡ vs ++ rest

-- some path from the start to state s has the moves as role m's whole share
pub record LeadsTo (sh : Sheet) (m : ℕ) (vs : List Move) (s : ℕ) : Type 0 where
  pub path : List Place
  pub leads : PathFrom sh 0 path
  pub shares : moves (share m path) ≡ vs
  pub ends : end_of 0 path ≡ s

-- the first point of soundness holds of all sets of role m: no more is needed below
abbrev pub OneSided : Sheet → ℕ → Type 0
OneSided sh m = (ls : List ℕ) → Followed sh m (Start sh m) ls → OneSide sh m (After sh m (Start sh m) ls)

-- The part is the projection: moves can be made from the start set exactly when they are the beginning of the role's
-- share of some path; and the set after them is exactly the states to which a path leads whose share they are.
pub record Projects (sh : Sheet) (m : ℕ) : Type 0 where
  pub follows : (vs : List Move) → Played sh m (Start sh m) vs ↔ BeginsShare sh m vs
  pub set : (vs : List Move) → Played sh m (Start sh m) vs → (s : ℕ) → After sh m (Start sh m) (labels vs) s ↔ LeadsTo sh m vs s

-- Labels say as much as moves: labels can be followed exactly when they are those of moves that can be made, and no
-- two different lists of such moves have the same labels.
pub record LabelsSuffice (sh : Sheet) (m : ℕ) : Type 0 where
  pub followed : (ls : List ℕ) → Followed sh m (Start sh m) ls ↔ ((vs : List Move) × (labels vs ≡ ls) × Played sh m (Start sh m) vs)
  pub one : (vs ws : List Move) → Played sh m (Start sh m) vs → Played sh m (Start sh m) ws → labels vs ≡ labels ws → vs ≡ ws

-- in every set of role m, the label determines the action, its timing too
abbrev pub LabelDetermines : Sheet → ℕ → Type 0
LabelDetermines sh m =
    (ls : List ℕ) → Followed sh m (Start sh m) ls → (s t : ℕ) → After sh m (Start sh m) ls s → After sh m (Start sh m) ls t →
    (a b : Action) → Acts sh m s a → Acts sh m t b → a.label ≡ b.label → a ≡ b

abbrev pub PartIsProjection : Type 0
PartIsProjection = (sh : Sheet) (m : ℕ) → OneSided sh m → Projects sh m

abbrev pub LabelsAlwaysSuffice : Type 0
LabelsAlwaysSuffice = (sh : Sheet) (m : ℕ) → OneSided sh m → LabelsSuffice sh m

-- and so it is for every role that has a part
abbrev pub PartsProject : Type 0
PartsProject = (sh : Sheet) → Valid sh → (m : ℕ) → HasPart sh m → Projects sh m × LabelsSuffice sh m × LabelDetermines sh m
