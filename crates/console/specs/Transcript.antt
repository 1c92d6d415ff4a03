-- Meaning: the transcript of a session.
use Rattle.std.specs.Prelude.{ℕ, ◌+◌, List, [], ◌∷◌, ◌++◌, Some, None, Ok, Err, codes, decimal, Option, Result}
use Rattle.stops.specs.declared.stop.Stop.{Stop}
use Rattle.text.specs.Lines.{line}
use Rattle.text.specs.StopLine.{word_of_number}
use Rattle.sheet.specs.declared.counts.Counts.{Counts}
use Rattle.events.specs.Closing.{closing_stop}
use Rattle.events.specs.Stop.{stopped}
use Rattle.events.specs.declared.call.Entry.{Entry}
use Rattle.events.specs.declared.call.Reply.TheVariants.{Passed, Next}
use Rattle.events.specs.declared.closing.Early.{Early}
use Rattle.session.specs.Calls.{Answer}

abbrev pub sheet_line : Counts → List ℕ
sheet_line c = line (codes "SHEET " ∷ decimal c.roles ∷ codes " " ∷ decimal c.labels ∷ codes " " ∷ decimal c.states ∷ [])

-- an event's number and what it was answered; no event is answered otherwise
abbrev pub answer_line : ℕ → Answer → List ℕ
answer_line number (Some (Ok (Passed answer))) = line (decimal number ∷ codes " PASS " ∷ decimal answer ∷ [])
answer_line number (Some (Err fault)) = line (decimal number ∷ codes " STOP " ∷ decimal (stopped fault).number ∷ codes " " ∷ word_of_number (stopped fault).number ∷ [])
answer_line number (Some (Ok (Next tick))) = []
answer_line number None = []

abbrev pub entry_lines : ℕ → List Entry → List ℕ
entry_lines number [] = []
entry_lines number (x ∷ xs) = answer_line number x.answer ++ entry_lines (number + 1) xs

-- closing's stop and the lowest role that is not finished
abbrev pub early_line : Stop → List ℕ
early_line stop = line (codes "END " ∷ decimal stop.number ∷ codes " " ∷ word_of_number stop.number ∷ codes " " ∷ decimal stop.first ∷ [])

abbrev pub ended_by : Option Stop → List ℕ
ended_by None = line (codes "END 0" ∷ [])
ended_by (Some stop) = early_line stop

abbrev pub end_line : Result (Unit {0}) Early → List ℕ
end_line closing = ended_by (closing_stop closing)

-- the sheet's counts, a line for each event, what closing answered
unfoldable pub transcript : Counts → List Entry → Result (Unit {0}) Early → List ℕ
transcript counts log closing = sheet_line counts ++ (entry_lines 1 log ++ end_line closing)
