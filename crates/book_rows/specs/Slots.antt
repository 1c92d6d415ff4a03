-- Meaning: the slot book. A row has 12 bytes: period, first, width. Its set is the values whose remainder by the period is at least first and below first + width.
use Rattle.std.specs.Prelude.{◌≡◌, ℕ, ◌+◌, ◌%◌, ◌^◌, ◌<◌, ◌≤◌, Bool, ◌&&◌, List, drop, Decides, nat_le}
use Rattle.std.proofs.lemmas.Bool.{leb-true, le-leb}
use Rattle.std.proofs.lemmas.Bool.Decides.{Decides-and}
use Rattle.book_rows.specs.Bytes.{number_of, RowsAdmit}
use Rattle.book_rows.specs.Sets.{Same}

abbrev pub period_of : List ℕ → ℕ
period_of row = number_of row

abbrev pub first_of : List ℕ → ℕ
first_of row = number_of (drop 4 row)

abbrev pub width_of : List ℕ → ℕ
width_of row = number_of (drop 8 row)

-- a legal row
abbrev pub SlotRule : List ℕ → Type 0
SlotRule row = (1 ≤ width_of row) × (first_of row + width_of row ≤ period_of row)

-- the same as a test
abbrev pub slot_rule : List ℕ → Bool
slot_rule row = nat_le 1 (width_of row) && nat_le (first_of row + width_of row) (period_of row)

pub slot_decided : (row : List ℕ) → Decides (slot_rule row) (SlotRule row)
slot_decided row = Decides-and _ _ (leb-true _ _, le-leb _ _) (leb-true _ _, le-leb _ _)

-- the clock values in a slot
abbrev pub InSlot : ℕ → ℕ → ℕ → ℕ → Type 0
InSlot period first width v = (v < 2 ^ 32) × (first ≤ v % period) × (v % period < first + width)

-- the set of a row of these bytes
abbrev pub slot_meant : List ℕ → ℕ → Type 0
slot_meant row = InSlot (period_of row) (first_of row) (width_of row)

-- a row with the numbers of the bytes has that set
pub slot_same : (row : List ℕ) (period first width : ℕ) → period ≡ period_of row → first ≡ first_of row → width ≡ width_of row
    → (v : ℕ) → Same (InSlot period first width v) (slot_meant row v)
slot_same row period first width p f w v = rw (p, f, w) ((λ q. q), (λ q. q))

-- the values that a row of these bytes admits
abbrev pub SlotAdmits : List ℕ → ℕ → ℕ → Type 0
SlotAdmits = RowsAdmit 12 slot_meant
