use Rattle.std.proofs.Common.{◌≡◌, ◌≤◌, List, [], ◌∷◌, length, get_or, refl, ap, ◌∙◌, arith, rules, tests}
use Rattle.std.specs.List.{list_all}
use Rattle.std.proofs.lemmas.Iterator.{YieldsList-from_slice}
use Rattle.std.proofs.lemmas.Iterator.Search.{all_from_yields_List}
use Rattle.parting.specs.declared.act.Act.{Act}
use Rattle.parting.specs.Judge.{is_same_side, is_one_sided}
use Rattle.parting.proofs.Blanks.{no_act}
use Rattle.parting.proofs.acts.Acts.is_one_sided.Goals as goal

by_the_first : (acts : List Act) (d : Act) → 1 ≤ length acts → list_all (is_same_side (get_or acts 0 d)) acts ≡ is_one_sided acts
by_the_first [] d h = absurd (omega arith)
by_the_first (a ∷ acts) d h = refl

pub returns-in-len1-up : goal.returns-in-len1-up
returns-in-len1-up c =
    let acts = c.as_slice-acts.result.now in
    all_from_yields_List (is_same_side (get_or acts 0 no_act)) _ _ _ c.all.ensures.ran (YieldsList-from_slice acts cc) (λ x b q k. search (rules, tests))
    ∙ by_the_first acts no_act c.in-len1-up.len_at_least
    ∙ ap is_one_sided c.as_slice-acts.ensures
