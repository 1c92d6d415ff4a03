use Rattle.std.proofs.Common.{sym, subst}
use Rattle.books.specs.declared.margin.Margin.{Margin}
use Rattle.books.specs.Margins.{Near}
use Rattle.book_rows.specs.Sets.{Same}
use Rattle.books.proofs.Nearing.{piled, capped}
use Rattle.books.proofs.margin.Margin+Margin+B.merged.Goals as goal

pub returns-clause-same : goal.returns-clause-same
returns-clause-same g c =
    let b = c.args.self.below.below in
    let d = c.args.self.below.by in
    let e = c.args.self.by in
    λ row v. subst (λ (m : Margin g.row.B.Denot). Same (Near (g.B.TimeBook.admits m.below row) m.by v) (Near (Near (g.B.TimeBook.admits b row) d) e v)) (sym c.over.ensures)
    (capped (g.B.TimeBook.admits b row) (g.B.TimeBook.bounded.ranged b row) d e c.saturating_add.result v c.saturating_add.ensures)

pub returns-clause-law : goal.returns-clause-law
returns-clause-law g c = λ b row. piled (g.B.TimeBook.admits b row) (g.B.TimeBook.bounded.ranged b row)
