use Rattle.std.proofs.Common.{refl, ap, ◌∙◌, rules, tests}
use Rattle.std.proofs.lemmas.Iterator.{YieldsList-from_range}
use Rattle.std.proofs.lemmas.Iterator.Search.{all_from_yields_List}
use Rattle.parting.specs.Judge.{every_below, offers}
use Rattle.parting.proofs.acts.Acts.is_same_labels.Goals as goal

pub returns : goal.returns
unfolding offers
returns c =
    let acts = c.args.self.now in
    all_from_yields_List (offers c.labels_at-labels.result acts) _ _ _ c.all.ensures.ran (YieldsList-from_range 0 64 64 refl refl) (λ x b q k. search (rules, tests))
    ∙ ap (λ l. every_below (offers l acts) 64) c.labels_at-labels.ensures
