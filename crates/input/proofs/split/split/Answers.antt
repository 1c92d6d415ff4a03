use Rattle.std.proofs.Common.{◌<◌, ◌≤◌, ◌++◌, length, sym, ap, ◌∙◌, arith}
use Rattle.std.specs.List.{flat_map, AllByRecursion}
use Rattle.std.proofs.ByRecursion.{All-from_get_or}
use Rattle.input.specs.Bytes.{sized, four, event_bytes}
use Rattle.input.proofs.Halves.{sized_same}
use Rattle.input.proofs.Parts.{third_is, split_events, split_whole, split_laid}
use Rattle.input.proofs.split.split.Goals as goal

pub returns-in_err-book : goal.returns-in_err-book
returns-in_err-book c =
    rw c.from_residual-in_err-book.ensures
    (λ s b t es laid.
    let p = sized_same s (sized b ++ (four t ++ flat_map event_bytes es)) _ _ (laid.bytes_are ∙ sym c.in_ok-sheet.ensures.1) in
    c.in_err-book.ensures b (four t ++ flat_map event_bytes es) laid.book_fits p.1)

pub returns-in_err-tick : goal.returns-in_err-tick
returns-in_err-tick c =
    rw c.from_residual-in_err-tick.ensures
    (λ s b t es laid.
    let p = sized_same s (sized b ++ (four t ++ flat_map event_bytes es)) _ _ (laid.bytes_are ∙ sym c.in_ok-sheet.ensures.1) in
    let q = sized_same b (four t ++ flat_map event_bytes es) _ _ (p.1 ∙ sym c.in_ok-book.ensures.1) in
    omega (arith, ap length q.1, c.in_err-tick.ensures))

pub returns-then-events-ne0 : goal.returns-then-events-ne0
returns-then-events-ne0 c = λ s b t es laid.
    let input = c.args.input.now in
    let ranges : AllByRecursion (λ b. b < 256) input = All-from_get_or (λ b. b < 256) input 0 (λ i _. omega (arith, c.type_inv.input i)) in
    let third = third_is input _ _ _ _ _ _ c.in_ok-sheet.ensures.1 c.in_ok-book.ensures.1 ranges c.in_ok-tick.ensures in
    c.if-events-ne0.true
    (split_whole _ _ _ _ _ _ _ c.in_ok-sheet.ensures.1 c.in_ok-book.ensures.1 third.1 s b t es laid)

pub returns : goal.returns
returns c =
    let input = c.args.input.now in
    let ranges : AllByRecursion (λ b. b < 256) input = All-from_get_or (λ b. b < 256) input 0 (λ i _. omega (arith, c.type_inv.input i)) in
    let first = c.in_ok-sheet.ensures in
    let second = c.in_ok-book.ensures in
    let third = third_is input _ _ _ _ _ _ first.1 second.1 ranges c.in_ok-tick.ensures in
    let most : length input ≤ 65536 = omega (arith, c.if-input-gt-MOST_INPUT.false) in
    record {
      laid = split_laid _ _ _ _ _ _ _ first.1 second.1 third.1 first.0 second.0 third.0 ranges c.if-events-ne0.false most;
      only = split_events _ _ _ _ _ _ _ first.1 second.1 third.1;
    }
