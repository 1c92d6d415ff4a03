use Rattle.std.proofs.Common.{◌<◌, ◌++◌, ap, ◌∙◌, arith, rules}
use Rattle.reading.specs.Handing.{counts_of, piece_count_of, piece_of}
use Rattle.reading.specs.Reads.{sheet_of}
use Rattle.sheet_page.specs.Lines.{name_line}
use Rattle.sheet_page.specs.Telling.{told}
use Rattle.text.specs.Growing.{said}
use Rattle.sheet_page.proofs.Numbered.{numbered_next}
use Rattle.sheet_page.proofs.Handed.{next_piece}
use Rattle.sheet_page.proofs.page.Page.put_names.Goals as goal

pub loop-number-preserved : goal.loop-number-preserved
loop-number-preserved c =
    let sh = told c.args.self.now in
    let kind = c.args.kind in
    let i = c.loop-number.number in
    let tell = name_line c.args.heading.now in
    let inside : i < piece_count_of (counts_of sh) kind = omega (arith, c.count-number-end.ensures, c.loop-number-test.true) in (
      search rules,
      numbered_next tell _ _ _ i (piece_of sh kind i) _ _ (next_piece sh kind i inside)
          (c.in_ok-put_name.ensures.added ∙ ap (λ s. said c.loop-number.self.text.now ++ tell i (piece_of (sheet_of s.now) kind i)) c.loop-number.invariant.0.sheet)
          c.loop-number.invariant.1,
    )
