use Rattle.std.proofs.Common.{◌∙◌, sym, arith, rules, tests}
use Rattle.std.proofs.lemmas.Iterator.{YieldsList-from_slice, YieldsList-from_map}
use Rattle.std.proofs.lemmas.Iterator.Adapters.{option_map_id}
use Rattle.std.proofs.lemmas.Iterator.Consumers.{YieldsList-at, YieldsList-from_filter, min_from_yields_List}
use Rattle.std.proofs.lemmas.Grind.{common_steps}
use Rattle.mark_book.proofs.Marking.{is_wanted, next_marked}
use Rattle.mark_book.proofs.first_from.Goals as goal

pub returns : goal.returns
returns c =
    next_marked c.args.marks.now c.args.row c.args.value c.min.result
    (sym (option_map_id _)
    ∙ min_from_yields_List _ _ c.min.ensures.ran (YieldsList-from_map _ (λ m. m.value)
    (YieldsList-at c.map.ensures.source (YieldsList-from_filter _ (is_wanted c.args.row c.args.value) (YieldsList-from_slice c.args.marks.now cc) c.filter.ensures.closure (λ x r q k. grind (arith, tests, common_steps))))
    c.map.ensures.closure (λ x r q k. search (rules, tests))))
    (search rules)
