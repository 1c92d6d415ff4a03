use Rattle.std.proofs.Common.{◌≡◌, ℕ, ◌+◌, ◌-◌, ◌*◌, ◌/◌, ◌<◌, ◌≤◌, leb, sym, ◌∙◌, inl, inr, div-lt_iff_lt-mul, arith, lit<}
use native.Mathlib.Nat.{mul-div-le}
use Rattle.std.proofs.lemmas.Bool.{le-leb, lt-leb}
use Rattle.std.proofs.lemmas.Bool.Decides.{leb_tells}

-- so many answers have room after head and closing exactly when all of it has
pub room_is : (n count : ℕ) → 13 ≤ n → leb count ((n - 5 - 8) / 8) ≡ leb (13 + 8 * count) n
room_is n count h =
    elim (leb_tells count ((n - 5 - 8) / 8)) [
      | inl p ↦ (let fits : 13 + 8 * count ≤ n = omega (arith, p.1, mul-div-le (n - 5 - 8) 8) in p.0 ∙ sym (le-leb (13 + 8 * count) n fits))
      | inr p ↦
          (let above : n - 5 - 8 < count * 8 = (div-lt_iff_lt-mul {k = 8} {x = n - 5 - 8} {y = count} (lit< tt)).0 p.1 in
          let short : n < 13 + 8 * count = omega arith in
          p.0 ∙ sym (lt-leb (13 + 8 * count) n short))
    ]
