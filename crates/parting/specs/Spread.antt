-- Computed: what can be reached along edges. Reach is the meaning, and a law ties the mask to it.
use Rattle.std.specs.Prelude.{◌≡◌, ℕ, zero, suc, Bool, cond, not, ◌&&◌, List, [], ◌∷◌, length}
use mathlib.Core.List.{Memᴰ}
use Rattle.parting.specs.declared.edge.Edge.{Edge}
use Rattle.parting.specs.Masks.{has, add}

-- the least set that holds X and, with the start of an edge, its end
pub data Reach (edges : List Edge) (X : ℕ → Type 0) : ℕ → Type 0 where
  start : {s : ℕ} → X s → Reach edges X s
  along : {s : ℕ} (e : Edge) → Memᴰ e edges → Reach edges X e.from → e.to ≡ s → Reach edges X s

-- the edge leads out of the set
unfoldable pub leaves : ℕ → Edge → Bool
leaves mask e = has mask e.from && not (has mask e.to)

-- the set with the end of the first edge that leads out of it
unfoldable pub grow : ℕ → List Edge → ℕ
grow mask [] = mask
grow mask (e ∷ edges) = cond (leaves mask e) (add e.to mask) (grow mask edges)

unfoldable pub fill : ℕ → List Edge → ℕ → ℕ
fill zero edges mask = mask
fill (suc n) edges mask = fill n edges (grow mask edges)

-- as often as there are edges: after that, none leads out
unfoldable pub spread : List Edge → ℕ → ℕ
spread edges mask = fill (length edges) edges mask

-- one pass over the edges: with the start of each, its end
abbrev pub passed : ℕ → List Edge → ℕ
passed mask [] = mask
passed mask (e ∷ edges) = passed (cond (has mask e.from) (add e.to mask) mask) edges
