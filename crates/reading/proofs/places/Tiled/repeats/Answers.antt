use Rattle.std.proofs.Common.{◌-◌, ◌≤◌, length, get_or, refl, ap, ◌∙◌, arith, rules, tests}
use Rattle.std.proofs.lemmas.Iterator.{YieldsList-from_range}
use Rattle.std.proofs.lemmas.Iterator.Search.{any_from_yields_List}
use Rattle.sheet.specs.Decode.{piece_count_in, table, cut}
use Rattle.sheet.specs.Names.{same}
use Rattle.sheet.proofs.Spans.{length-table}
use Rattle.reading.specs.Places.{nowhere}
use Rattle.reading.proofs.NameSteps.{among_pairs}
use Rattle.reading.proofs.places.Tiled.repeats.Goals as goal

pub returns : goal.returns
returns c =
    let bytes = c.args.self.paired.bytes.now in
    let ss = table bytes in
    let name = c.args.name.now in
    let all : c.args.end - c.args.first ≤ length ss - c.args.first = omega (arith, length-table bytes, ap piece_count_in c.args.self.paired.counted) in
    any_from_yields_List (λ j. same name (cut bytes (get_or ss j nowhere))) _ _ c.any.result c.any.ensures.ran (YieldsList-from_range c.args.first c.args.end (c.args.end - c.args.first) refl refl) (λ x b q k. search (rules, tests))
    ∙ among_pairs bytes ss name c.args.first (c.args.end - c.args.first) all
