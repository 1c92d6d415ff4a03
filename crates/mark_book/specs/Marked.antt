-- Meaning: a book of marks. A mark puts one value into the set of one row.
use Rattle.std.specs.Prelude.{◌≡◌, ℕ, ◌^◌, ◌<◌, List, slice_index_or}
use Rattle.mark_book.specs.declared.Mark.{Mark}

abbrev pub no_mark : Mark
no_mark = record { row = 0; value = 0 }

-- one of the first n marks puts v into the row
abbrev pub Marked : List Mark → ℕ → ℕ → ℕ → Type 0
Marked marks n row v = (v < 2 ^ 32) × ((k : ℕ) × (k < n) × ((slice_index_or marks k no_mark).row ≡ row) × ((slice_index_or marks k no_mark).value ≡ v))
