use Rattle.std.proofs.Common.{refl}
use Rattle.session.proofs.Ended.{closes}
use Rattle.session.proofs.session.Session.close.Goals as goal

pub returns : goal.returns
returns g c =
    let s = c.args.self in
    record {
      back = (refl, refl);
      whole = λ sh opening depth es w. closes sh (g.B.TimeBook.admits s.book) opening depth es s.accepted s.inner w c.closing-closing.result c.closing-closing.ensures;
    }
