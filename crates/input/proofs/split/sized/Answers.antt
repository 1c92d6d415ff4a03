use Rattle.std.proofs.Common.{◌≡◌, ◌+◌, ◌*◌, ◌≤◌, length, get_or, refl, arith}
use Rattle.std.proofs.lemmas.List.{get_or-take}
use Rattle.input.proofs.Halves.{sized_cut}
use Rattle.input.proofs.split.sized.Goals as goal

pub returns : goal.returns
returns c =
    let bytes = c.args.bytes.now in
    let enough : 2 ≤ length bytes = c.in_ok-size.ensures.variant.0 refl in
    let size : c.from_be_bytes.result ≡ get_or bytes 0 0 * 256 + get_or bytes 1 0 =
    rw (← get_or-take 2 bytes 0 0 (omega arith), ← get_or-take 2 bytes 1 0 (omega arith)) (rw (← c.in_ok-size.ensures.cases.0) c.from_be_bytes.ensures) in
    sized_cut bytes _ _ c.split_at_checked.result enough (λ i. omega (arith, c.type_inv.bytes i)) size c.in_ok-size.ensures.cases.1 c.split_at_checked.ensures.cases
