use Rattle.std.proofs.Common.{◌≡◌, ◌<◌, ◌≤◌, List, [], length, get_or, take, Some, None, sym, ◌∙◌, subst, arith}
use Rattle.std.proofs.lemmas.List.{take_all}
use Rattle.events.specs.declared.call.Call.TheVariants.{Judge}
use Rattle.events.specs.declared.call.Entry.{Entry}
use Rattle.events.specs.declared.event.Event.{Event}
use Rattle.session.specs.Calls.{Right, passed, Prescribed}
use Rattle.session.specs.Outcomes.{Closes}
use Rattle.session.specs.Watches.{SessionWatches}
use Rattle.session.proofs.Listed.{calls_stay, passed_more, prescribed_more}
use Rattle.session.proofs.watch.watch.Goals as goal

-- an entry past the end of the log
abbrev no_entry : Entry
no_entry = record { call = Judge (record { role = 0; direction = 0; partner = 0; label = 0; tick = 0 }); answer = None }

pub loop-i-preserved : goal.loop-i-preserved
loop-i-preserved g c =
    let l = c.loop-i in
    let log = l.log in
    let i = l.i in
    let answer = Some c.ask.result in
    let call = (get_or log i no_entry).call in
    let front = passed [] (take i log) in
    let kept = c.ask.ensures.kept in
    let h : i < length log = omega arith in
    record {
      asked = calls_stay log i no_entry answer h ∙ l.invariant.asked;
      sheet = kept.0 ∙ l.invariant.sheet;
      book = kept.1 ∙ l.invariant.book;
      whole = λ sh o d w.
          let before = l.invariant.whole sh o d w in
          let asked = c.ask.ensures.whole sh o d front before.1 in (
            prescribed_more log i no_entry answer h sh (g.B.TimeBook.admits c.in_ok-session.session.book) o d before.0
                (subst (λ b. Right sh (g.B.TimeBook.admits b) o d front call answer) l.invariant.book asked.0),
            subst (λ (es : List Event). SessionWatches g.B.TimeBook.admits sh o d es c.ask.new.self) (sym (passed_more log i no_entry answer h)) asked.1,
          );
    }

pub returns-clause-whole : goal.returns-clause-whole
returns-clause-whole g c =
    let l = c.loop-i in
    let s = c.in_ok-session.session in
    let opened = c.in_ok-session.ensures.whole in
    let tick = c.args.tick in
    let depth = c.args.depth in
    let front = take l.i l.log in
    let reached : length l.log ≤ l.i = omega arith in
    let all : front ≡ l.log = take_all l.i l.log reached in (
      c.close.ensures.back.0 ∙ l.invariant.sheet ∙ opened.0,
      c.close.ensures.back.1 ∙ l.invariant.book ∙ opened.1,
      λ sh is.
          let after = l.invariant.whole sh tick depth (opened.2 sh is) in (
            subst (λ b. Prescribed sh (g.B.TimeBook.admits b) tick depth [] l.log) opened.1 (subst (Prescribed sh (g.B.TimeBook.admits s.book) tick depth []) all after.0),
            subst (λ (xs : List Entry). Closes sh (passed [] xs) c.close.result.closing) all (c.close.ensures.whole sh tick depth (passed [] front) after.1),
          ),
    )
