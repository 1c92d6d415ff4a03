use Rattle.std.proofs.Common.{◌<◌, ◌++◌, length, ap, ◌∙◌, arith, rules}
use Rattle.sheet.specs.Decode.{state_of}
use Rattle.reading.specs.declared.piece.Kind.TheVariants.{State}
use Rattle.reading.specs.Handing.{piece_of}
use Rattle.reading.specs.Reads.{sheet_of}
use Rattle.sheet_page.specs.Page.{state_lines}
use Rattle.sheet_page.specs.Telling.{told}
use Rattle.text.specs.Growing.{said}
use Rattle.sheet_page.proofs.Numbered.{numbered_next}
use Rattle.sheet_page.proofs.Handed.{next_state}
use Rattle.sheet_page.proofs.page.Page.put_states.Goals as goal

pub loop-number-preserved : goal.loop-number-preserved
loop-number-preserved c =
    let sh = told c.args.self.now in
    let i = c.loop-number.number in
    let inside : i < length sh.states = omega (arith, c.count-number-end.ensures, c.loop-number-test.true) in (
      search rules,
      numbered_next (state_lines sh) _ _ _ i (state_of (piece_of sh State i)) _ _ (next_state sh i inside)
          (c.in_ok-put_state.ensures.added ∙ ap (λ s. said c.loop-number.self.text.now ++ state_lines (sheet_of s.now) i (state_of c.part.result.now)) c.loop-number.invariant.0.sheet
          ∙ ap (λ body. said c.loop-number.self.text.now ++ state_lines sh i (state_of body)) c.part.ensures
          ∙ ap (λ s. said c.loop-number.self.text.now ++ state_lines sh i (state_of (piece_of (sheet_of s.now) State i))) c.loop-number.invariant.0.sheet)
          c.loop-number.invariant.1,
    )
