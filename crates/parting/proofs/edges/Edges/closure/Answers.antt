use Rattle.std.proofs.Common.{◌≡◌, Decides, sym, ap, ◌∙◌, subst, arith}
use Rattle.protocol.specs.Sets.{Silent}
use Rattle.parting.specs.Masks.{has, In}
use Rattle.parting.specs.Spread.{spread, start}
use Rattle.parting.proofs.Passing.{Passing, passing_more, passing_all, pass_grows}
use Rattle.parting.proofs.Viewing.{silent_decides}
use Rattle.parting.proofs.edges.Edges.closure.Goals as goal

pub loop-reached-init : goal.loop-reached-init
loop-reached-init c = record { holds = λ s x. x; reached = λ s x. start x }

pub loop-reached-preserved : goal.loop-reached-preserved
loop-reached-preserved c =
    subst (Passing c.args.self.now c.args.start) (sym c.pass-more.ensures) (passing_more c.args.self.now c.args.start c.loop-reached.reached c.loop-reached.invariant)

pub loop-reached-smaller : goal.loop-reached-smaller
loop-reached-smaller c =
    let grows = pass_grows c.loop-reached.reached c.args.self.now in
    omega (arith, grows, c.pass-more.ensures)

pub returns-then-more-reached : goal.returns-then-more-reached
returns-then-more-reached c =
    let edges = c.args.self.now in
    let from = c.args.start in
    let mask = c.loop-reached.reached in
    let e : mask ≡ spread edges from = passing_all edges from mask c.loop-reached.invariant (sym c.pass-more.ensures ∙ c.if-more-reached.true) in
    record {
      value = e;
      silent = λ sh m are s. subst (λ z. Decides (has z s) (Silent sh m (In from) s)) (sym (e ∙ ap (λ es. spread es from) are)) (silent_decides sh m from s);
    }
