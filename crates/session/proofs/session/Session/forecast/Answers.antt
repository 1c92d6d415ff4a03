use Rattle.std.proofs.Common.{◌<◌, length, ap, ◌∙◌, arith}
use Rattle.sheet.specs.declared.counts.Counts.{Counts}
use Rattle.session.proofs.Foretold.{since_late, foretold}
use Rattle.session.proofs.session.Session.forecast.Goals as goal

pub returns : goal.returns
returns g c =
    let s = c.args.self.now in
    let m = c.args.role in
    let book = g.B.TimeBook.admits s.book in
    λ sh opening depth es w.
    let roles = ap (λ (n : Counts). n.roles) (c.counts.ensures ∙ w.sheet.parts.counts) in
    let known : m < length sh.roles = omega (arith, c.if-role-counts.false, roles) in
    record {
      known = known;
      least = foretold sh book opening depth es s.accepted s.inner w m known c.next.result (c.next.ensures (since_late sh book opening depth es s.accepted s.inner w m known));
    }
