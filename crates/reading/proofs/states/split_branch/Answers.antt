use Rattle.std.proofs.Common.{◌≤◌, ◌∷◌, length, sym, ap, ◌∙◌, arith, ltb-false}
use Rattle.std.proofs.lemmas.List.{take_rest, length-drop}
use Rattle.sheet.specs.Decode.{branches}
use Rattle.reading.proofs.Bodies.{first_branch, branches_more}
use Rattle.reading.proofs.states.split_branch.Goals as goal

pub returns-in-len5-up : goal.returns-in-len5-up
returns-in-len5-up c =
    let xs = c.args.bytes.now in
    let long : 5 ≤ length xs = omega (arith, ltb-false) in (
      branches_more xs long ∙ ap (λ ys. first_branch xs ∷ branches ys) (sym (take_rest xs 5)),
      omega (arith, ap length (take_rest xs 5), length-drop 5 xs),
    )
