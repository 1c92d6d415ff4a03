use Rattle.std.proofs.Common.{◌≡◌, ◌+◌, ◌-◌, ◌*◌, ◌≤◌, length, drop, sym, ◌∙◌, arith, length-drop, length-take-le}
use Rattle.std.proofs.lemmas.Bool.{leb-true}
use Rattle.std.proofs.lemmas.Slice.{drop-put_mid}
use Rattle.replay.proofs.Later.{same_later}
use Rattle.replay.proofs.play.answer.Goals as goal

pub returns : goal.returns
returns g c =
    let end = 5 + 8 * c.args.script.count in
    let start = c.args.output.now in
    let opened = c.put.new.output in
    let rows = c.put_answers.new.rows in
    let fits : 13 + 8 * c.args.script.count ≤ length start = leb-true (13 + 8 * c.args.script.count) (length start) (sym c.if-not-has_room.ensures) in
    let same : length opened ≡ length start = c.put.auto.output in
    let middle : end - 5 ≤ length (drop 5 opened) = omega (arith, length-drop 5 opened, same, fits) in
    let whole : length rows ≡ end - 5 = c.put_answers.auto.rows ∙ length-take-le (end - 5) (drop 5 opened) middle in
    let head : 0 + length c.opened_bytes.result ≤ end + 8 = omega (arith, c.opened_bytes.ensures) in
    let last : end + length c.closing_bytes.result ≤ end + 8 = omega (arith, c.closing_bytes.ensures) in (
      omega arith,
      same_later (end + length c.closing_bytes.result) (end + 8) c.put-2.new.output _ last c.put-2.ensures.rest
          ∙ drop-put_mid 5 (end - 5) opened rows (end + 8) (omega arith) (omega arith) whole
          ∙ same_later (0 + length c.opened_bytes.result) (end + 8) opened start head c.put.ensures.rest,
    )
