-- The calls that events are, one by one, and what is told of them.
use Rattle.std.proofs.Common.{◌≡◌, ℕ, List, [], ◌∷◌, ◌++◌, map, IfOk, Some, None, Ok, Err, Option, Result, sym, refl, ap, ◌∙◌, subst, append_assoc, MatchOption}
use Rattle.std.proofs.lemmas.List.{map_push}
use Rattle.text.specs.StopLine.{line_of_stop}
use Rattle.books.specs.declared.fault.BookFault.{BookFault}
use Rattle.sheet.specs.Decode.{model}
use Rattle.sheet.specs.Law.{Encodes}
use Rattle.sheet.specs.declared.counts.Counts.{Counts}
use Rattle.reading.specs.Handing.{counts_of}
use Rattle.protocol.specs.Accepted.{Accepted as CanBeParted}
use Rattle.runs.specs.Run.{Book}
use Rattle.events.specs.declared.event.Event.{Event}
use Rattle.input.specs.Bytes.{event_bytes}
use Rattle.input.specs.Events.{events_in}
use Rattle.input.proofs.Decoding.{event_next}
use Rattle.input.specs.Laid.{Broken}
use Rattle.input.specs.Split.{Splits}
use Rattle.input.specs.declared.script.Script.{Script}
use Rattle.session.specs.Calls.{call_of, calls, passed, Prescribed}
use Rattle.session.specs.Outcomes.{Closes}
use Rattle.events.specs.declared.closing.Early.{Early}
use Rattle.console.specs.Faults.{stop_for, watch_fault}
use Rattle.console.specs.Log.{unanswered}
use Rattle.console.specs.Told.{Watched, PartsTold, Told}
use Rattle.console.specs.Transcript.{transcript}
use Rattle.console.specs.declared.fault.ConsoleFault.{ConsoleFault}
use Rattle.console.specs.declared.fault.ConsoleFault.TheVariants.{Cut}
use Rattle.events.specs.declared.call.Call.{Call}
use Rattle.events.specs.declared.call.Call.TheVariants.{Judge}
use Rattle.events.specs.declared.call.Entry.{Entry}

-- entries that are not answered ask to judge each event
pub asks_events : (es : List Event) → calls (map unanswered es) ≡ map Judge es
asks_events [] = refl
asks_events (e ∷ es) = ap (λ l. Judge e ∷ l) (asks_events es)

-- one more event is one more call
pub log_more : (log log' : List Entry) (bytes rest : List ℕ) (e : Event) (all : List Call) → log' ≡ log ++ (unanswered e ∷ []) → event_bytes e ++ rest ≡ bytes → calls log ++ map Judge (events_in bytes) ≡ all
    → calls log' ++ map Judge (events_in rest) ≡ all
log_more log log' bytes rest e all pushed first inv =
    ap (λ l. calls l ++ map Judge (events_in rest)) pushed
    ∙ ap (λ w. w ++ map Judge (events_in rest)) (map_push call_of log (unanswered e))
    ∙ append_assoc (calls log) (Judge e ∷ []) (map Judge (events_in rest))
    ∙ ap (λ es. calls log ++ map Judge es) (sym (event_next e rest) ∙ ap events_in first)
    ∙ inv

-- what was added is what the parts are told as
pub shown_by : {T E : Type 0} (r : Result T E) (x z t : List ℕ) (P : List ℕ → Type 0) → P t → IfOk r (λ _. z ≡ x ++ t) → IfOk r (λ _. (shown : List ℕ) × (z ≡ x ++ shown) × P shown)
shown_by (Ok u) x z t P p e = (t, e, p)
shown_by (Err u) x z t P p e = tt

module _ (refusal : List ℕ → Option BookFault) (rows_in : List ℕ → ℕ) (allows : List ℕ → Book) (sheet book : List ℕ) (tick : ℕ) (events : List Event) (text : List ℕ) where
  pub parts_stopped : (fault : ConsoleFault) → Some fault ≡ watch_fault refusal rows_in sheet book → text ≡ line_of_stop (stop_for fault) → PartsTold refusal rows_in allows sheet book tick events text
  parts_stopped fault e is = subst (λ o. MatchOption o (Watched sheet (allows book) tick events text) (λ f. text ≡ line_of_stop (stop_for f))) e is

  pub parts_watched : (counts : Counts) (log shown : List Entry) (closing : Result (Unit {0}) Early) → None ≡ watch_fault refusal rows_in sheet book → Encodes sheet (model sheet) → CanBeParted (model sheet)
      → counts ≡ counts_of (model sheet) → Prescribed (model sheet) (allows book) tick 8 [] log → Closes (model sheet) (passed [] log) closing → calls log ≡ map Judge events → shown ≡ log
      → text ≡ transcript counts shown closing → PartsTold refusal rows_in allows sheet book tick events text
  parts_watched counts log shown closing e encodes parted counted prescribed closes asked same is =
      subst (λ o. MatchOption o (Watched sheet (allows book) tick events text) (λ f. text ≡ line_of_stop (stop_for f))) e (record {
        sheet = model sheet;
        encodes = encodes;
        parted = parted;
        log = log;
        closing = closing;
        asked = asked;
        prescribed = prescribed;
        closes = closes;
        text_is = is ∙ ap (λ k. transcript k shown closing) counted ∙ ap (λ l. transcript (counts_of (model sheet)) l closing) same;
      })

-- the parts of an input are told, and it has no others
pub told_laid : (refusal : List ℕ → Option BookFault) (rows_in : List ℕ → ℕ) (allows : List ℕ → Book) (input text : List ℕ) (s : Script) → Splits input s
    → PartsTold refusal rows_in allows s.sheet.now s.book.now s.tick (events_in s.events.now) text → Told refusal rows_in allows input text
told_laid refusal rows_in allows input text s splits told = record {
  broken = λ none. absurd (none _ _ _ _ splits.laid);
  laid = λ sheet book tick events laid.
      let p = splits.only sheet book tick events laid in
      let a : PartsTold refusal rows_in allows sheet s.book.now s.tick (events_in s.events.now) text = subst (λ x. PartsTold refusal rows_in allows x s.book.now s.tick (events_in s.events.now) text) (sym p.0) told in
      let b : PartsTold refusal rows_in allows sheet book s.tick (events_in s.events.now) text = subst (λ x. PartsTold refusal rows_in allows sheet x s.tick (events_in s.events.now) text) (sym p.1) a in
      let c : PartsTold refusal rows_in allows sheet book tick (events_in s.events.now) text = subst (λ x. PartsTold refusal rows_in allows sheet book x (events_in s.events.now) text) (sym p.2) b in
      subst (λ x. PartsTold refusal rows_in allows sheet book tick x text) (sym p.3) c;
}

pub told_broken : (refusal : List ℕ → Option BookFault) (rows_in : List ℕ → ℕ) (allows : List ℕ → Book) (input text : List ℕ) → Broken input → text ≡ line_of_stop (stop_for Cut) → Told refusal rows_in allows input text
told_broken refusal rows_in allows input text none is = record {
  broken = λ _. is;
  laid = λ sheet book tick events laid. absurd (none sheet book tick events laid);
}
