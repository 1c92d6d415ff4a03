-- A numbered list, item by item.
use Rattle.std.proofs.Common.{◌≡◌, ℕ, ◌+◌, ◌<◌, ◌≤◌, List, ◌∷◌, ◌++◌, length, get_or, drop, sym, ap, ◌∙◌, append_assoc, append-nil}
use Rattle.std.proofs.lemmas.List.{drop_more, at_drop_all}
use Rattle.sheet_page.specs.Page.{numbered}

-- x is the whole, y what was told before an item, z what was told with it
pub numbered_next : {X : Type 0} (tell : ℕ → X → List ℕ) (x y z : List ℕ) (i : ℕ) (item : X) (left rest : List X) → left ≡ item ∷ rest → z ≡ y ++ tell i item → y ++ numbered tell i left ≡ x → z ++ numbered tell (i + 1) rest ≡ x
numbered_next tell x y z i item left rest next after inv =
    ap (λ t. t ++ numbered tell (i + 1) rest) after
    ∙ append_assoc y (tell i item) (numbered tell (i + 1) rest)
    ∙ ap (λ items. y ++ numbered tell i items) (sym next)
    ∙ inv

-- what was told and what is left make the whole, item by item and at the end
module _ {X : Type 0} (tell : ℕ → X → List ℕ) (xs : List X) (d : X) where
  pub numbered_more : (x y z : List ℕ) (i : ℕ) → i < length xs → z ≡ y ++ tell i (get_or xs i d) → y ++ numbered tell i (drop i xs) ≡ x ++ numbered tell 0 xs → z ++ numbered tell (i + 1) (drop (i + 1) xs) ≡ x ++ numbered tell 0 xs
  numbered_more x y z i h = numbered_next tell (x ++ numbered tell 0 xs) y z i (get_or xs i d) (drop i xs) (drop (i + 1) xs) (drop_more xs i d h)

  pub numbered_all : (x y : List ℕ) (i : ℕ) → length xs ≤ i → y ++ numbered tell i (drop i xs) ≡ x ++ numbered tell 0 xs → y ≡ x ++ numbered tell 0 xs
  numbered_all x y i h inv = sym (append-nil y) ∙ ap (λ w. y ++ w) (sym (at_drop_all (numbered tell i) xs i h)) ∙ inv
