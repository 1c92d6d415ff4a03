use Rattle.std.proofs.Common.{◌≡◌, ◌+◌, sym, ap, ◌∙◌, rules, tests}
use Rattle.std.specs.List.{position_from}
use Rattle.std.specs.Option.{option_map}
use Rattle.std.proofs.lemmas.Iterator.{YieldsList-from_slice}
use Rattle.std.proofs.lemmas.Iterator.Adapters.{position_from-zero}
use Rattle.std.proofs.lemmas.Iterator.Search.{position_from_yields_List}
use Rattle.sheet.specs.declared.fault.ReadFault.TheVariants.{Byte}
use Rattle.reading.proofs.Printable.{odd, byte_first}
use Rattle.reading.proofs.names.check_bytes.Goals as goal

pub returns-in-Some : goal.returns-in-Some
returns-in-Some c =
    let name = c.args.name.bytes.now in
    let found : c.position.result ≡ position_from odd 0 name =
    position_from_yields_List odd _ _ c.position.result c.position.ensures.ran (YieldsList-from_slice name cc) (λ x b q k. search (rules, tests)) ∙ position_from-zero odd name in
    sym (byte_first c.args.name.offset name c.position.result found ∙ ap (option_map (λ k. Byte (c.args.name.offset + k))) c.in-Some.is)

pub returns-in-None : goal.returns-in-None
returns-in-None c =
    let name = c.args.name.bytes.now in
    let found : c.position.result ≡ position_from odd 0 name =
    position_from_yields_List odd _ _ c.position.result c.position.ensures.ran (YieldsList-from_slice name cc) (λ x b q k. search (rules, tests)) ∙ position_from-zero odd name in
    sym (byte_first c.args.name.offset name c.position.result found ∙ ap (option_map (λ k. Byte (c.args.name.offset + k))) c.in-None.is)
