-- Each answer is that of the call that is made.
use Rattle.std.proofs.lemmas.Result.{err_from_is_err_and}
use Rattle.session.proofs.session.Session.ask.Goals as goal

pub returns-in_ok-event-in-Judge-clause-whole : goal.returns-in_ok-event-in-Judge-clause-whole
returns-in_ok-event-in-Judge-clause-whole g c = λ sh opening depth es w. rw c.in-Judge.is (c.in_ok-event-in-Judge.ensures.whole sh opening depth es w)

pub returns-in_ok-forecast-in-Forecast-clause-whole : goal.returns-in_ok-forecast-in-Forecast-clause-whole
returns-in_ok-forecast-in-Forecast-clause-whole g c = λ sh opening depth es w. rw c.in-Forecast.is (c.in_ok-forecast-in-Forecast.ensures sh opening depth es w, w)

pub returns-in_err-forecast-in-Forecast-clause-whole : goal.returns-in_err-forecast-in-Forecast-clause-whole
returns-in_err-forecast-in-Forecast-clause-whole g c =
    let p = err_from_is_err_and c.from_residual-in_err-forecast-in-Forecast.result c.from_residual-in_err-forecast-in-Forecast.ensures.1 in
    λ sh opening depth es w. rw (p.1, p.2, c.in-Forecast.is) (c.in_err-forecast-in-Forecast.ensures sh opening depth es w, w)
