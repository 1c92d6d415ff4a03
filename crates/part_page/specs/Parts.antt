-- Meaning: the lines that tell the modules' parts, and the stop where a module has none.
use Rattle.std.specs.Prelude.{◌≡◌, ℕ, zero, suc, ◌+◌, Bool, cond, List, [], ◌∷◌, ◌++◌, Some, None, codes, decimal, Option, MatchOption}
use Rattle.text.specs.Lines.{line}
use Rattle.text.specs.StopLine.{line_of_stop}
use Rattle.sheet.specs.Model.{Sheet}
use Rattle.parting.specs.declared.accepted.Accepted.{Accepted}
use Rattle.parting.specs.declared.local.LocalKind.{LocalKind}
use Rattle.parting.specs.declared.local.LocalKind.TheVariants.{Finished, Sending, Receiving}
use Rattle.parting.specs.declared.local.LocalSet.{LocalSet}
use Rattle.parting.specs.declared.local.Move.{Move}
use Rattle.parting.specs.declared.local.Part.{Part}
use Rattle.parting.specs.Handed.{parts_in, sets_in}
use Rattle.parting.specs.Masks.{has}
use Rattle.parting.specs.Parts.{part_fault}
use Rattle.parting.specs.Stop.{stopped}
use Rattle.parting.specs.Whole.{PartsOf}
use Rattle.sheet_page.specs.Lines.{time_of, label_name, role_name}
use Rattle.sheet_page.specs.Page.{numbered, page}

-- what becomes of the module's own clock
abbrev pub clock_of : Bool → List ℕ
clock_of reset = cond reset (codes "resets") (codes "keeps")

unfoldable pub move_line : Sheet → ℕ → Move → List ℕ
move_line sh label m =
    line (codes "    " ∷ label_name sh label ∷ codes " " ∷ time_of m.row ∷ codes ", " ∷ clock_of m.reset ∷ codes " its clock, then set " ∷ decimal m.next ∷ [])

-- a label with which the module does not go on has no line
abbrev pub move_lines : Sheet → ℕ → Option Move → List ℕ
move_lines sh label None = []
move_lines sh label (Some m) = move_line sh label m

-- a state of the set, after a space; nothing for another state
abbrev pub member_of : ℕ → ℕ → List ℕ
member_of mask state = cond (has mask state) (codes " " ++ decimal state) []

-- of the states from a number on, as many as given, those that are in the set
abbrev pub states_from : ℕ → ℕ → ℕ → List ℕ
states_from mask state zero = []
states_from mask state (suc n) = member_of mask state ++ states_from mask (state + 1) n

-- what the module does in a set
abbrev pub kind_of : Sheet → LocalKind → List ℕ
kind_of sh Finished = line (codes ": finished" ∷ [])
kind_of sh (Sending partner) = line (codes ": sends to " ∷ role_name sh partner ∷ [])
kind_of sh (Receiving partner) = line (codes ": takes from " ∷ role_name sh partner ∷ [])

abbrev pub set_head : ℕ → List ℕ
set_head number = codes "  set " ++ (decimal number ++ codes ", states")

-- a set's line, and a line for each label with which the module goes on
unfoldable pub set_lines : Sheet → ℕ → LocalSet → List ℕ
set_lines sh number s = set_head number ++ states_from s.states 0 64 ++ kind_of sh s.kind ++ numbered (move_lines sh) 0 s.moves

abbrev pub part_line : Sheet → ℕ → List ℕ
part_line sh role = line (codes "PART " ∷ role_name sh role ∷ [])

-- a module's line, and the lines of its sets
unfoldable pub part_text : Sheet → ℕ → Part → List ℕ
part_text sh role part = part_line sh role ++ numbered (set_lines sh) 0 (sets_in part)

-- the parts of all modules
unfoldable pub part_lines : Sheet → Accepted → List ℕ
part_lines sh a = numbered (part_text sh) 0 (parts_in a)

-- what follows the page: the stop of the first fault, or the parts of an accepted sheet
abbrev pub PartingTold : Sheet → List ℕ → Type 0
PartingTold sh text = MatchOption (part_fault sh) ((a : Accepted) × PartsOf sh a × (text ≡ page sh ++ part_lines sh a)) (λ f. text ≡ page sh ++ line_of_stop (stopped f))
