use Rattle.std.proofs.Common.{ℕ, List, ◌++◌, codes, decimal, ap, rules}
use Rattle.sheet_page.specs.Lines.{label_name, time_of}
use Rattle.sheet_page.specs.Telling.{told}
use Rattle.part_page.specs.Parts.{move_line}
use Rattle.text.specs.Growing.{said}
use Rattle.text.proofs.Adding.{further, ends}
use Rattle.part_page.proofs.moves.put_move.Goals as goal

-- what follows the label's name
abbrev tail : (time next clock : List ℕ) → List ℕ
tail time next clock = codes " " ++ (time ++ (codes ", " ++ (clock ++ (codes " its clock, then set " ++ (next ++ codes "\n")))))

pub returns : goal.returns
unfolding move_line
returns c =
    let m = c.args.step in
    let name = label_name (told c.args.page.now) c.args.label in
    let last : List ℕ → List ℕ = tail (time_of m.row) (decimal m.next) in
    let x = said c.args.page.now.text.now in
    record {
      stays = search rules;
      added = ends c.writeln.result x _ _ (codes "    " ++ name) (last c.clock-clock.result.now) _
          (further x _ _ (codes "    ") name c.in_ok-put.ensures c.in_ok-put_piece.ensures.added)
          (ap (λ clock. codes "    " ++ (name ++ last clock)) c.clock-clock.ensures) c.writeln.ensures;
    }
