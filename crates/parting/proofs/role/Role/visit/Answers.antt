use Rattle.std.proofs.Common.{refl, sym, ap, ◌∙◌, rules, tests}
use Rattle.parting.specs.declared.fault.PartFault.TheVariants.{Sets}
use Rattle.parting.specs.Family.{followed, stopped, found_or}
use Rattle.parting.specs.Judge.{first_failing_point}
use Rattle.parting.specs.Seen.{seen}
use Rattle.parting.proofs.Following.{visited_point, visited_follows, mapped}
use Rattle.parting.proofs.role.Role.visit.Goals as goal

pub returns-in-Some : goal.returns-in-Some
returns-in-Some c =
    let a = c.args in
    let r = a.self.now in
    let h = c.of_set-here in
    let same = ap (λ l. first_failing_point l a.states h.result.acts) (sym h.ensures.leading) ∙ ap (λ m. first_failing_point h.result.leading m h.result.acts) (sym h.ensures.states) in
    record {
      value = ap stopped c.fault_at.ensures ∙ sym (visited_point r.number (seen r.view) r.labels a.set a.states a.search.now.found.items _ h.ensures.acts c.in-Some.point (same ∙ sym c.first_failing.ensures ∙ c.in-Some.is));
      judged = refl;
    }

pub returns : goal.returns
returns c =
    let a = c.args in
    let r = a.self.now in
    let h = c.of_set-here in
    let e = c.follow.ensures in
    let f = Sets r.number a.set in
    let found = a.search.now.found.items in
    let same = ap (λ l. first_failing_point l a.states h.result.acts) (sym h.ensures.leading) ∙ ap (λ m. first_failing_point h.result.leading m h.result.acts) (sym h.ensures.states) in
    record {
      value = mapped c.follow.result c.map_err.result f c.follow.new.search.found.items _ c.map_err.ensures.cases (λ x d k. search (rules, tests))
          ∙ ap (found_or f) (e.value ∙ ap (λ es. followed es h.result.acts 0 r.labels found) h.ensures.silent)
          ∙ sym (visited_follows r.number (seen r.view) r.labels a.set a.states found _ h.ensures.acts (same ∙ sym c.first_failing.ensures ∙ c.in_default.is));
      judged = e.judged;
    }
