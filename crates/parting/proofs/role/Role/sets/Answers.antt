use Rattle.std.proofs.Common.{◌≡◌, ◌+◌, ◌-◌, ◌<◌, length, get_or, sym, ap, ◌∙◌, arith}
use Rattle.parting.specs.Family.{sets, visited, explored}
use Rattle.parting.specs.Seen.{seen}
use Rattle.parting.proofs.Exploring.{started, start_is, explored_more}
use Rattle.parting.proofs.Following.{turn_is}
use Rattle.parting.proofs.role.Role.sets.Goals as goal

pub loop-set-init : goal.loop-set-init
loop-set-init c =
    let r = c.args.self.now in
    let v = seen r.view in
    let begun = c.new-search.ensures in
    started r.number v r.labels c.enter.new.self.judged c.closure.result c.enter.result c.new-search.result.found.items c.enter.new.self.found.items
    (c.enter.ensures.judged ∙ begun.1) begun.0 (c.closure.ensures.value ∙ start_is v) c.enter.ensures.value

pub loop-set-preserved : goal.loop-set-preserved
loop-set-preserved c =
    let r = c.args.self.now in
    let v = seen r.view in
    let l = c.loop-set.search in
    let e = c.in-Some.ensures in
    let more = c.visit.new.search.found.items in
    let goes : visited r.number v r.labels l.judged (get_or l.found.items l.judged 0) l.found.items ≡ sets more =
    turn_is r.number v r.labels l.judged c.in-Some.set c.in-Some.states l.found.items c.next.new.self.found.items e.turn.0 e.turn.2 e.found ∙ sym c.in_ok-visit.ensures.value in
    let under : l.judged < length l.found.items = omega (arith, e.turn.0, e.turn.1) in
    let next : c.visit.new.search.judged ≡ l.judged + 1 = c.in_ok-visit.ensures.judged ∙ e.turn.3 in
    ap (λ n. explored r.number v r.labels (33 - n) n more) next
    ∙ sym (explored_more r.number v r.labels l.judged l.found.items more (omega (arith, l.few, l.reached)) under goes) ∙ c.loop-set.invariant
