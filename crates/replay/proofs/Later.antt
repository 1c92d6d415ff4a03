use Rattle.std.proofs.Common.{◌≡◌, ℕ, ◌+◌, ◌-◌, ◌≤◌, List, drop, sym, ap, ◌∙◌, arith}
use Rattle.std.proofs.lemmas.List.{drop-drop}

-- lists that are the same from n on are the same from any later place on
pub same_later : (n m : ℕ) (xs ys : List ℕ) → n ≤ m → drop n xs ≡ drop n ys → drop m xs ≡ drop m ys
same_later n m xs ys le e =
    let reach : n + (m - n) ≡ m = omega arith in
    sym (drop-drop (m - n) n xs ∙ ap (λ k. drop k xs) reach) ∙ ap (drop (m - n)) e ∙ drop-drop (m - n) n ys ∙ ap (λ k. drop k ys) reach
