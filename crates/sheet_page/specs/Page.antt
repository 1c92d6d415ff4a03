-- Meaning: the page that tells a sheet: its counts, its names with their numbers, its states with their branches.
use Rattle.std.specs.Prelude.{ℕ, ◌+◌, List, [], ◌∷◌, ◌++◌, codes}
use Rattle.std.specs.List.{flat_map}
use Rattle.sheet.specs.Model.{State, ended, exchange, Sheet}
use Rattle.reading.specs.Handing.{counts_of}
use Rattle.sheet_page.specs.Lines.{counts_line, name_line, branch_line, end_line, exchange_line}

-- what is told of each item, numbered from the given number on
abbrev pub numbered : {X : Type 0} → (ℕ → X → List ℕ) → ℕ → List X → List ℕ
numbered tell number [] = []
numbered tell number (x ∷ xs) = tell number x ++ numbered tell (number + 1) xs

-- a state's line, and a line for each of its branches
unfoldable pub state_lines : Sheet → ℕ → State → List ℕ
state_lines sh number ended = end_line number
state_lines sh number (exchange sender receiver branches) = exchange_line sh number sender receiver ++ flat_map (branch_line sh) branches

unfoldable pub page : Sheet → List ℕ
page sh =
    counts_line (counts_of sh)
    ++ numbered (name_line (codes "MODULE")) 0 sh.roles
    ++ numbered (name_line (codes "LABEL")) 0 sh.labels
    ++ numbered (state_lines sh) 0 sh.states
