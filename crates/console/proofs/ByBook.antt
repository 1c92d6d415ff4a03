-- Books with the same sets prescribe the same answers.
use Rattle.std.proofs.Common.{ℕ, List, [], ◌∷◌, Some, None, Ok, Err, inl, inr}
use Rattle.books.specs.Sets.{Same}
use Rattle.sheet.specs.Model.{Sheet}
use Rattle.protocol.specs.Actions.{Timing}
use Rattle.events.specs.declared.event.Event.{Event}
use Rattle.runs.specs.Run.{Book, Admits, Run}
use Rattle.runs.specs.Laws.{Could}
use Rattle.runs.proofs.Foresee.{least_by}
use Rattle.session.specs.Calls.{Answer, Right, after, Prescribed}
use Rattle.session.specs.Outcomes.{InRow, Refused}
use Rattle.events.specs.declared.call.Reply.TheVariants.{Passed, Next}
use Rattle.events.specs.declared.call.Call.{Call}
use Rattle.events.specs.declared.call.Call.TheVariants.{Judge, Forecast}
use Rattle.events.specs.declared.call.Entry.{Entry}
use Rattle.events.specs.declared.fault.SessionFault.{SessionFault}
use Rattle.events.specs.declared.fault.SessionFault.TheVariants.{Book as TooFewRows, Depth, Who, What, Back, Turn, Line, Full, Time}

-- what a book admits, a wider one admits
module _ (P Q : Book) (to : (row v : ℕ) → P row v → Q row v) where
  admits_wider : (t : Timing) (v : ℕ) → Admits P t v → Admits Q t v
  admits_wider t v (inl any) = inl any
  admits_wider t v (inr h) = inr (to t.row v h)

  run_wider : (sh : Sheet) (opening depth : ℕ) (es : List Event) → Run sh P opening depth es → Run sh Q opening depth es
  run_wider sh opening depth es r = record {
    ticks = r.ticks;
    channels = r.channels;
    known = r.known;
    path = r.path;
    leads = r.leads;
    shares = r.shares;
    clocks = λ m front back e es-are before later t are level. admits_wider t _ (r.clocks m front back e es-are before later t are level);
  }

  in_row_wider : (sh : Sheet) (opening : ℕ) (es : List Event) (e : Event) → InRow sh P opening es e → InRow sh Q opening es e
  in_row_wider sh opening es e r = record {
    turn = r.turn;
    path = r.path;
    leads = r.leads;
    begins = r.begins;
    holds = admits_wider r.turn.action.timing _ r.holds;
  }

  could_wider : (sh : Sheet) (opening depth : ℕ) (es : List Event) (m t : ℕ) → Could sh P opening depth es m t → Could sh Q opening depth es m t
  could_wider sh opening depth es m t c = (c.0, c.1, c.2, run_wider sh opening depth _ c.3)

module _ (P Q : Book) (same : (row v : ℕ) → Same (P row v) (Q row v)) (sh : Sheet) (opening depth : ℕ) where
  abbrev to : (row v : ℕ) → P row v → Q row v
  to row v = (same row v).0

  abbrev back : (row v : ℕ) → Q row v → P row v
  back row v = (same row v).1

  refused_by : (es : List Event) (e : Event) (fault : SessionFault) → Refused sh P opening depth es e fault → Refused sh Q opening depth es e fault
  refused_by es e (Who role label) r = r
  refused_by es e (What role label) r = r
  refused_by es e (Back role label) r = r
  refused_by es e (Turn role label) r = r
  refused_by es e (Line role label) r = r
  refused_by es e (Full role label) r = r
  refused_by es e (Time role label) r = (r.0, r.1, r.2, r.3, r.4, r.5, r.6, r.7, λ q. r.8 (in_row_wider Q P back sh opening es e q))
  refused_by es e (TooFewRows rows) r = r
  refused_by es e (Depth d) r = r

  right_by : (es : List Event) (call : Call) (answer : Answer) → Right sh P opening depth es call answer → Right sh Q opening depth es call answer
  right_by es (Judge e) (Some (Ok (Passed n))) p = record { run = run_wider P Q to sh opening depth _ p.run; answers = p.answers }
  right_by es (Judge e) (Some (Err fault)) s = record { no_run = λ r. s.no_run (run_wider Q P back sh opening depth _ r); refused = refused_by es e fault s.refused }
  right_by es (Judge e) (Some (Ok (Next tick))) p = p
  right_by es (Judge e) None p = p
  right_by es (Forecast role) (Some (Ok (Next tick))) f = record {
    known = f.known;
    least = least_by _ _ _ _ (λ u _. could_wider P Q to sh opening depth es role u) (λ u _. could_wider Q P back sh opening depth es role u) tick f.least;
  }
  right_by es (Forecast role) (Some (Err fault)) p = p
  right_by es (Forecast role) (Some (Ok (Passed n))) p = p
  right_by es (Forecast role) None p = p

  pub prescribed_by : (es : List Event) (log : List Entry) → Prescribed sh P opening depth es log → Prescribed sh Q opening depth es log
  prescribed_by es [] p = p
  prescribed_by es (x ∷ xs) p = (right_by es x.call x.answer p.0, prescribed_by (after es x.call x.answer) xs p.1)
