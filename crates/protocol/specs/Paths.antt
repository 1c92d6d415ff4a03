-- Meaning: paths of a sheet, and a role's share of one.
use Rattle.std.specs.Prelude.{◌≡◌, ℕ, List, [], ◌∷◌, ◌++◌}
use Rattle.sheet.specs.Model.{Sheet}
use Rattle.protocol.specs.Actions.{Action, turn}
use Rattle.protocol.specs.Places.{Place, Has}

-- a list of places, the first of state s, each later one of the state that the one before leads to
abbrev pub PathFrom : Sheet → ℕ → List Place → Type 0
PathFrom sh s [] = Unit {0}
PathFrom sh s (p ∷ ps) = Has sh p × (p.state ≡ s) × PathFrom sh p.branch.next ps

-- the state to which a path from s leads
abbrev pub end_of : ℕ → List Place → ℕ
end_of s [] = s
end_of s (p ∷ ps) = end_of p.branch.next ps

-- role m's actions on a path, in order
abbrev pub share : ℕ → List Place → List Action
share m [] = []
share m (p ∷ ps) = turn m p ++ share m ps
