-- Meaning: the window book. A row has 8 bytes: low, then high. Its set is low to high.
use Rattle.std.specs.Prelude.{◌≡◌, ℕ, ◌^◌, ◌<◌, ◌≤◌, Bool, List, drop, Decides, nat_le}
use Rattle.std.proofs.lemmas.Bool.{leb-true, le-leb}
use Rattle.book_rows.specs.Bytes.{number_of, RowsAdmit}
use Rattle.book_rows.specs.Sets.{Same}

abbrev pub low_of : List ℕ → ℕ
low_of row = number_of row

abbrev pub high_of : List ℕ → ℕ
high_of row = number_of (drop 4 row)

-- a legal row
abbrev pub WindowRule : List ℕ → Type 0
WindowRule row = low_of row ≤ high_of row

-- the same as a test
abbrev pub window_rule : List ℕ → Bool
window_rule row = nat_le (low_of row) (high_of row)

pub window_decided : (row : List ℕ) → Decides (window_rule row) (WindowRule row)
window_decided row = (leb-true _ _, le-leb _ _)

-- the clock values from low to high
abbrev pub InWindow : ℕ → ℕ → ℕ → Type 0
InWindow low high v = (v < 2 ^ 32) × (low ≤ v) × (v ≤ high)

-- the set of a row of these bytes
abbrev pub window_meant : List ℕ → ℕ → Type 0
window_meant row = InWindow (low_of row) (high_of row)

-- a row with the numbers of the bytes has that set
pub window_same : (row : List ℕ) (low high : ℕ) → low ≡ low_of row → high ≡ high_of row → (v : ℕ) → Same (InWindow low high v) (window_meant row v)
window_same row low high l h v = rw (l, h) ((λ p. p), (λ p. p))

-- the values that a row of these bytes admits
abbrev pub WindowAdmits : List ℕ → ℕ → ℕ → Type 0
WindowAdmits = RowsAdmit 8 window_meant
