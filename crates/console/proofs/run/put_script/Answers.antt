use Rattle.std.proofs.Common.{◌≡◌, refl, ap, ◌∙◌}
use Rattle.std.proofs.lemmas.List.{take_at}
use Rattle.text.specs.Growing.{said}
use Rattle.input.specs.Events.{events_in}
use Rattle.session.specs.Calls.{calls}
use Rattle.console.specs.Told.{PartsTold}
use Rattle.console.specs.Transcript.{transcript}
use Rattle.console.proofs.Telling.{asks_events, shown_by, parts_watched}
use Rattle.console.proofs.run.put_script.Goals as goal

pub returns-in-Ok : goal.returns-in-Ok
returns-in-Ok g c =
    let sheet = c.args.script.sheet.now in
    let book = c.args.script.book.now in
    let tick = c.args.script.tick in
    let events = events_in c.args.script.events.now in
    let seen = c.in-Ok.seen in
    let log = c.watch_script.new.log in
    let shown = c.as_slice.result.now in
    let watched = c.in-Ok.ensures in
    -- what the session wrote into the slice is what the log then holds
    let same : shown ≡ log = c.as_slice.ensures.value ∙ take_at log _ _ (c.watch_script.auto.log ∙ c.as_mut_slice.ensures.len) in
    let asked = watched.asked ∙ ap calls (c.as_mut_slice.ensures.value ∙ c.in_ok-log.ensures) ∙ asks_events events in
    let text = transcript seen.counts shown seen.closing in
    shown_by c.put_transcript.result (said c.args.text.now) _ text (PartsTold g.B.ReadBook.refusal g.B.ReadBook.rows_in g.B.ReadBook.allows sheet book tick events)
    (parts_watched g.B.ReadBook.refusal g.B.ReadBook.rows_in g.B.ReadBook.allows sheet book tick events text seen.counts log shown seen.closing
    watched.judged watched.whole.0 watched.whole.1 watched.whole.2 watched.whole.3 watched.whole.4 asked same refl)
    c.put_transcript.ensures
