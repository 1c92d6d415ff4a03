-- Meaning: the lines in which a sheet is told.
use Rattle.std.specs.Prelude.{ℕ, cond, List, [], ◌∷◌, ◌++◌, codes, decimal, ◌==◌, slice_index_or}
use Rattle.text.specs.Lines.{line}
use Rattle.sheet.specs.declared.branch.Branch.{Branch}
use Rattle.sheet.specs.declared.counts.Counts.{Counts}
use Rattle.sheet.specs.Model.{Name, Sheet}

abbrev pub counts_line : Counts → List ℕ
counts_line c =
    line (codes "SHEET " ∷ decimal c.roles ∷ codes " modules, " ∷ decimal c.labels ∷ codes " labels, " ∷ decimal c.states ∷ codes " states, " ∷ decimal c.rows ∷ codes " time rows" ∷ [])

-- a module or a label with its number
unfoldable pub name_line : List ℕ → ℕ → Name → List ℕ
name_line heading number name = line (heading ∷ codes " " ∷ decimal number ∷ codes " " ∷ name ∷ [])

-- when a time row allows an event; 255 is no row
abbrev pub time_of : ℕ → List ℕ
time_of row = cond (row == 255) (codes "any time") (codes "in row " ++ decimal row)

-- whose clocks are reset
abbrev pub clocks_of : ℕ → List ℕ
clocks_of resets =
    cond (resets == 0) (codes "no clock")
    (cond (resets == 1) (codes "the sender's clock")
    (cond (resets == 2) (codes "the receiver's clock") (codes "both clocks")))

abbrev pub label_name : Sheet → ℕ → Name
label_name sh label = slice_index_or sh.labels label []

abbrev pub role_name : Sheet → ℕ → Name
role_name sh role = slice_index_or sh.roles role []

unfoldable pub branch_line : Sheet → Branch → List ℕ
branch_line sh b =
    line (codes "  " ∷ label_name sh b.label ∷ codes ", then state " ∷ decimal b.next ∷ codes ": send " ∷ time_of b.send ∷ codes ", take " ∷ time_of b.receive ∷ codes ", resets " ∷ clocks_of b.resets ∷ [])

abbrev pub end_line : ℕ → List ℕ
end_line number = line (codes "STATE " ∷ decimal number ∷ codes " end" ∷ [])

unfoldable pub exchange_line : Sheet → ℕ → ℕ → ℕ → List ℕ
exchange_line sh number sender receiver =
    line (codes "STATE " ∷ decimal number ∷ codes " " ∷ role_name sh sender ∷ codes " to " ∷ role_name sh receiver ∷ [])
