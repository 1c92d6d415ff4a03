use Rattle.std.proofs.Common.{◌≡◌, ℕ, ◌+◌, ◌<◌, Bool, List, length, get_or, Some, None, sym, ap, ◌∙◌, arith}
use Rattle.std.specs.List.{between}
use Rattle.std.proofs.lemmas.Result.{err_from_is_err_and}
use Rattle.sheet.specs.Decode.{piece_count_in, table, cut}
use Rattle.sheet.specs.Refuse.{among, byte_fault, name_fault}
use Rattle.sheet.proofs.Spans.{length-table}
use Rattle.reading.specs.Places.{nowhere}
use Rattle.reading.proofs.Pieces.{judged_at}
use Rattle.reading.proofs.NameSteps.{name_byte, name_twice, name_more, earlier_more}
use Rattle.reading.proofs.places.Tiled.check_names.Goals as goal

told : (r : Bool) (name piece : List ℕ) (names : List (List ℕ)) → r ≡ among name names → name ≡ piece → among piece names ≡ r
told r name piece names e p = sym (e ∙ ap (λ n. among n names) p)

pub returns-in_err-check_bytes : goal.returns-in_err-check_bytes
returns-in_err-check_bytes c =
    let bytes = c.args.self.paired.bytes.now in
    let ss = table bytes in
    let i = c.loop-pair.pair in
    let within : i < length ss = omega (arith, length-table bytes, c.requires.1, ap piece_count_in c.args.self.paired.counted) in
    let judged : byte_fault (get_or ss i nowhere).offset (cut bytes (get_or ss i nowhere)) ≡ Some c.in_err-check_bytes.field-0.0 =
    judged_at byte_fault bytes ss i _ _ _ c.piece-name.ensures.offset c.piece-name.ensures.value c.in_err-check_bytes.ensures in
    let p = err_from_is_err_and c.from_residual.result c.from_residual.ensures.1 in
    rw (p.1, p.2) (sym (name_byte bytes ss i c.args.end c.loop-pair-test.true within _ _ judged) ∙ c.loop-pair.invariant)

pub returns-then-repeats : goal.returns-then-repeats
returns-then-repeats c =
    let bytes = c.args.self.paired.bytes.now in
    let ss = table bytes in
    let i = c.loop-pair.pair in
    let within : i < length ss = omega (arith, length-table bytes, c.requires.1, ap piece_count_in c.args.self.paired.counted) in
    let judged : byte_fault (get_or ss i nowhere).offset (cut bytes (get_or ss i nowhere)) ≡ None =
    judged_at byte_fault bytes ss i _ _ _ c.piece-name.ensures.offset c.piece-name.ensures.value c.in_ok-check_bytes.ensures in
    sym (name_twice bytes ss i c.args.end c.loop-pair-test.true within _ judged (told _ _ _ _ c.if-repeats.ensures c.piece-name.ensures.value)) ∙ c.loop-pair.invariant

pub loop-pair-preserved : goal.loop-pair-preserved
loop-pair-preserved c =
    let bytes = c.args.self.paired.bytes.now in
    let ss = table bytes in
    let i = c.loop-pair.pair in
    let within : i < length ss = omega (arith, length-table bytes, c.requires.1, ap piece_count_in c.args.self.paired.counted) in
    let judged : byte_fault (get_or ss i nowhere).offset (cut bytes (get_or ss i nowhere)) ≡ None =
    judged_at byte_fault bytes ss i _ _ _ c.piece-name.ensures.offset c.piece-name.ensures.value c.in_ok-check_bytes.ensures in
    ap (λ names. name_fault bytes (i + 1) names (between (i + 1) c.args.end ss)) (earlier_more bytes ss c.args.first i c.loop-pair.auto.pair within)
    ∙ sym (name_more bytes ss i c.args.end c.loop-pair-test.true within _ judged (told _ _ _ _ c.if-repeats.ensures c.piece-name.ensures.value)) ∙ c.loop-pair.invariant
