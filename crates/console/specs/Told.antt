-- Meaning: what is printed for an input, by runs of the sheet.
use Rattle.std.specs.Prelude.{◌≡◌, ℕ, List, [], map, Option, MatchOption, Result}
use Rattle.text.specs.StopLine.{line_of_stop}
use Rattle.books.specs.declared.fault.BookFault.{BookFault}
use Rattle.sheet.specs.Law.{Encodes}
use Rattle.sheet.specs.Model.{Sheet}
use Rattle.reading.specs.Handing.{counts_of}
use Rattle.events.specs.declared.event.Event.{Event}
use Rattle.input.specs.Laid.{Laid, Broken}
use Rattle.protocol.specs.Accepted.{Accepted as CanBeParted}
use Rattle.runs.specs.Run.{Book}
use Rattle.session.specs.Calls.{calls, passed, Prescribed}
use Rattle.session.specs.Outcomes.{Closes}
use Rattle.events.specs.declared.call.Call.TheVariants.{Judge}
use Rattle.events.specs.declared.call.Entry.{Entry}
use Rattle.events.specs.declared.closing.Early.{Early}
use Rattle.console.specs.declared.fault.ConsoleFault.TheVariants.{Cut}
use Rattle.console.specs.Faults.{stop_for, watch_fault}
use Rattle.console.specs.Transcript.{transcript}

-- The text is the transcript of a session that is asked to judge these events: of the sheet that the bytes encode, which can be parted,
-- by this book, from this tick on, with channels of depth 8. Each event is answered as runs of the sheet prescribe, and so is closing.
pub record Watched (bytes : List ℕ) (book : Book) (tick : ℕ) (events : List Event) (text : List ℕ) : Type 0 where
  pub sheet : Sheet
  pub encodes : Encodes bytes sheet
  pub parted : CanBeParted sheet
  pub log : List Entry
  pub closing : Result (Unit {0}) Early
  pub asked : calls log ≡ map Judge events
  pub prescribed : Prescribed sheet book tick 8 [] log
  pub closes : Closes sheet (passed [] log) closing
  pub text_is : text ≡ transcript (counts_of sheet) log closing

-- The parts of an input, with a kind of book: which bytes it refuses, how many rows bytes have, and what each row allows.
-- The first fault is told as its stop; where there is none, the events are watched.
abbrev pub PartsTold : (List ℕ → Option BookFault) → (List ℕ → ℕ) → (List ℕ → Book) → List ℕ → List ℕ → ℕ → List Event → List ℕ → Type 0
PartsTold refusal rows_in allows sheet book tick events text =
    MatchOption (watch_fault refusal rows_in sheet book) (Watched sheet (allows book) tick events text) (λ fault. text ≡ line_of_stop (stop_for fault))

-- A broken input is told as stop 61, and every other as the parts that it is laid out of.
pub record Told (refusal : List ℕ → Option BookFault) (rows_in : List ℕ → ℕ) (allows : List ℕ → Book) (input text : List ℕ) : Type 0 where
  pub broken : Broken input → text ≡ line_of_stop (stop_for Cut)
  pub laid : (sheet book : List ℕ) (tick : ℕ) (events : List Event) → Laid input sheet book tick events → PartsTold refusal rows_in allows sheet book tick events text
