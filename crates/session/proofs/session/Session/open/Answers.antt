use Rattle.std.proofs.Common.{◌≤◌, refl, ap, arith}
use Rattle.std.proofs.lemmas.Bool.Decides.{nat_tests}
use Rattle.session.proofs.Begun.{begun}
use Rattle.session.proofs.session.Session.open.Goals as goal

pub returns : goal.returns
returns g c =
    let enough : c.args.accepted.counts.rows ≤ g.B.TimeBook.count c.args.book = omega (arith, c.rows-rows.ensures, ap (λ k. k.rows) c.counts.ensures) in
    let shallow : c.args.depth ≤ 8 = omega arith in
    record {
      judged = grind (arith, nat_tests);
      whole = (refl, refl, λ sh is. begun sh c.args.accepted is c.args.tick _ refl (g.B.TimeBook.admits c.args.book) c.args.depth refl shallow c.empty.ensures refl);
    }
