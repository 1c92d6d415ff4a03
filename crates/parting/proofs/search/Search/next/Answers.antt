use Rattle.std.proofs.Common.{◌≡◌, length, None, sym, ap, ◌∙◌, arith, rules}
use Rattle.queue.specs.Held.{inside}
use Rattle.parting.proofs.Exploring.{drop_head, drop-none}
use Rattle.parting.proofs.search.Search.next.Goals as goal

pub returns-in_err-set-clause-turn : goal.returns-in_err-set-clause-turn
returns-in_err-set-clause-turn c =
    let s = c.args.self.now in
    let none : c.from_residual.result ≡ None = search rules in
    rw none (drop-none s.judged s.found.items (sym s.waits ∙ c.in_err-set.ensures.held.0))

pub invariant_of-self-2 : goal.invariant_of-self-2
invariant_of-self-2 c =
    let s = c.args.self.now in
    let h = drop_head s.judged c.in_ok-set.set s.found.items (inside c.pop.new.self) (sym s.waits ∙ c.in_ok-set.ensures.held) in
    record { few = s.few; reached = omega (arith, h.0); slots = ap length c.in_ok-set.ensures.slots ∙ s.slots; waits = h.2 }
