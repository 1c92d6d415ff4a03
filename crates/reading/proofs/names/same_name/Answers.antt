use Rattle.std.proofs.lemmas.Slice.Eq.{slice_eq-Decides}
use Rattle.std.proofs.lemmas.Bool.Decides.{Decides-eqb}
use Rattle.reading.proofs.Spelling.{same_is}
use Rattle.reading.proofs.names.same_name.Goals as goal

pub returns-clause-value : goal.returns-clause-value
returns-clause-value c =
    let d = slice_eq-Decides Decides-eqb c.args.a.now c.args.b.now c.eq.result c.eq.ensures in
    same_is _ _ _ d
