use Rattle.std.proofs.Common.{◌≡◌, ℕ, List, [], ◌∷◌, map, eqb, refl, arith, rules}
use borrow.Author.Tests.{tests}
use Rattle.std.specs.List.{find}
use Rattle.std.specs.Option.{option_map}
use Rattle.std.proofs.lemmas.Iterator.{YieldsList-from_slice}
use Rattle.std.proofs.lemmas.Iterator.Search.{find_from_yields_List}
use Rattle.stops.specs.declared.table.Entry.{Entry}
use Rattle.stops.specs.Words.{word_of}
use Rattle.stops.proofs.table.find.Goals as goal

word_found : (n : ℕ) (es : List Entry) → word_of n (map (λ e. (e.number, e.word.now)) es) ≡ option_map (λ (e : Entry). e.word.now) (find (λ (e : Entry). eqb e.number n) es)
word_found n [] = refl
word_found n (e ∷ es) = grind (arith, word_found n es)

pub returns : goal.returns
returns c =
    let n = c.args.number in
    let es = c.args.entries.now in
    let found = find_from_yields_List (λ (e : Entry). eqb e.number n) _ _ c.find.result c.find.ensures.ran (YieldsList-from_slice es c.iter.ensures.rest) (λ x b q k. search (rules, tests)) in
    let told = word_found n es in grind (arith, found, told)
