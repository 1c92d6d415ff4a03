-- Passed: the step is one of the sheet's, and what it changes is read off the events. Stopped: nothing was written.
use Rattle.std.proofs.Common.{◌≤◌, length, subst, rules}
use Rattle.std.proofs.lemmas.Result.{err_from_is_err_and}
use Rattle.session.proofs.Verdict.{Judgement, judged}
use Rattle.session.proofs.Passage.{Leaves, watches_on, passing}
use Rattle.session.proofs.Refusing.{stopping}
use Rattle.session.proofs.session.Session.event.Goals as goal

pub returns-in_err-step : goal.returns-in_err-step
returns-in_err-step g c =
    let p = err_from_is_err_and c.from_residual.result c.from_residual.ensures.1 in
    record {
      kept = search rules;
      stays = rw p.1 (search rules);
      whole = λ sh opening depth es w. rw (p.1, p.2) (stopping sh (g.B.TimeBook.admits c.args.self.now.book) opening depth es c.args.self.now.accepted c.args.self.now.inner w c.args.event c.in_err-step.field-0.0 c.in_err-step.ensures);
    }

pub returns : goal.returns
returns g c =
    let step = c.in_ok-step.step in
    let ok = c.in_ok-step.ensures in
    let six : 6 ≤ length c.args.self.now.inner.records = c.pass.ensures.six in
    let leaves : Leaves c.args.self.now.inner c.args.event step c.pass.new.self c.pass.result = record {
      records = c.pass.ensures.records;
      latest = c.pass.ensures.latest;
      depth = c.pass.ensures.depth;
      channels = c.pass.ensures.channels;
    } in
    record {
      kept = search rules;
      stays = tt;
      whole = λ sh opening depth es w.
          let s = subst (Judgement sh (g.B.TimeBook.admits c.args.self.now.book) opening depth es c.args.self.now.accepted c.args.self.now.inner w c.args.event) ok.0 (judged sh (g.B.TimeBook.admits c.args.self.now.book) opening depth es c.args.self.now.accepted c.args.self.now.inner w c.args.event) in (
            passing sh (g.B.TimeBook.admits c.args.self.now.book) opening depth es c.args.self.now.accepted c.args.self.now.inner w c.args.event step s c.pass.new.self c.pass.result leaves six ok.1,
            watches_on sh (g.B.TimeBook.admits c.args.self.now.book) opening depth es c.args.self.now.accepted c.args.self.now.inner w c.args.event step s c.pass.new.self c.pass.result leaves six ok.1,
          );
    }
