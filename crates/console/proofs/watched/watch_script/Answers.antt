use Rattle.std.proofs.Common.{[], None, ap, ◌∙◌}
use Rattle.sheet.specs.Decode.{model}
use Rattle.sheet.specs.declared.counts.Counts.{Counts}
use Rattle.console.specs.Faults.{accept_fault}
use Rattle.console.proofs.Accepting.{opening_last}
use Rattle.console.proofs.ByBook.{prescribed_by}
use Rattle.console.proofs.watched.watch_script.Goals as goal

pub returns-in-Ok : goal.returns-in-Ok
returns-in-Ok g c =
    let sheet = c.args.script.sheet.now in
    let book = c.args.script.book.now in
    let parts = c.in_ok-accepted.ensures.whole in
    let watched = c.in-Ok.ensures in
    let told = watched.whole.2 (model sheet) parts.1 in
    record {
      judged = opening_last (accept_fault g.B.ReadBook.refusal sheet book) None _ _ _ _ c.in_ok-accepted.ensures.judged watched.judged (ap (λ (k : Counts). k.rows) parts.1.parts.counts) parts.2;
      asked = watched.asked;
      whole = (
        parts.0,
        parts.1.parted,
        c.counts-counts.ensures ∙ parts.1.parts.counts,
        prescribed_by (g.B.TimeBook.admits c.in_ok-accepted.book) (g.B.ReadBook.allows book) parts.3 (model sheet) c.args.script.tick 8 [] c.watch.new.log told.0,
        told.1,
      );
    }
