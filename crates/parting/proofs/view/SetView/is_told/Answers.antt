use Rattle.std.proofs.Common.{refl, rules, tests}
use Rattle.std.proofs.lemmas.Iterator.{YieldsList-from_range}
use Rattle.std.proofs.lemmas.Iterator.Search.{all_from_yields_List}
use Rattle.parting.specs.Judge.{is_led_from}
use Rattle.parting.proofs.view.SetView.is_told.Goals as goal

pub returns : goal.returns
unfolding is_led_from
returns c =
    let s = c.args.self.now in
    all_from_yields_List (is_led_from s.leading s.states) _ _ _ c.all.ensures.ran (YieldsList-from_range 0 64 64 refl refl) (λ x b q k. search (rules, tests))
