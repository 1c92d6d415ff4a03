use Rattle.std.proofs.Common.{◌≡◌, ap, ◌∙◌, subst}
use Rattle.books.specs.declared.margin.Margin.{Margin}
use Rattle.books.specs.Margins.{Near}
use Rattle.books.specs.Nexts.{Next}
use Rattle.mark_book.specs.declared.Marks.{Marks}
use Rattle.mark_book.specs.contracts.MarksTimeBook.TheImpl.{ghosts as meaning}
use Rattle.mark_book.proofs.Marks.next_under_margins.Goals as goal

pub returns : goal.returns
returns c =
    let piled : c.over-2.result ≡ record { below = record { below = c.args.self; by = c.args.inner }; by = c.args.outer } =
    c.over-2.ensures ∙ ap (λ (m : Margin Marks). record { below = m; by = c.args.outer }) c.over.ensures in
    subst (λ (m : Margin (Margin Marks)). Next (Near (Near (meaning.admits m.below.below c.args.row) m.below.by) m.by) c.args.value c.next.result)
    piled c.next.ensures
