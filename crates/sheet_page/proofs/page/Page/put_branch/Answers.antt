use Rattle.std.proofs.Common.{ℕ, List, ◌++◌, codes, decimal, ap, rules}
use Rattle.sheet_page.specs.Lines.{label_name, time_of, branch_line}
use Rattle.sheet_page.specs.Telling.{told}
use Rattle.text.specs.Growing.{said}
use Rattle.text.proofs.Adding.{further, ends}
use Rattle.sheet_page.proofs.page.Page.put_branch.Goals as goal

-- what follows the label's name
abbrev tail : (next send receive clocks : List ℕ) → List ℕ
tail next send receive clocks =
    codes ", then state " ++ (next ++ (codes ": send " ++ (send ++ (codes ", take " ++ (receive ++ (codes ", resets " ++ (clocks ++ codes "\n")))))))

pub returns : goal.returns
unfolding branch_line
returns c =
    let b = c.args.branch in
    let name = label_name (told c.args.self.now) b.label in
    let last : List ℕ → List ℕ = tail (decimal b.next) (time_of b.send) (time_of b.receive) in
    let x = said c.args.self.now.text.now in
    record {
      stays = search rules;
      added = ends c.writeln.result x _ _ (codes "  " ++ name) (last c.clocks-clocks.result.now) _
          (further x _ _ (codes "  ") name c.in_ok-put.ensures c.in_ok-put_piece.ensures.added)
          (ap (λ clocks. codes "  " ++ (name ++ last clocks)) c.clocks-clocks.ensures) c.writeln.ensures;
    }
