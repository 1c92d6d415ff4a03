-- Meaning: how numbers and rows stand in a book's bytes.
use Rattle.std.specs.Prelude.{ℕ, ◌+◌, ◌*◌, ◌/◌, List, length, take, drop, slice_index}
use Rattle.book_rows.specs.Sets.{InRow}

-- the number of 32 bits that the bytes begin with, high byte first
unfoldable pub number_of : List ℕ → ℕ
number_of bytes = slice_index bytes 0 * 16777216 + slice_index bytes 1 * 65536 + slice_index bytes 2 * 256 + slice_index bytes 3

-- the bytes of a row, where every row has as many
abbrev pub row_at : ℕ → List ℕ → ℕ → List ℕ
row_at size bytes row = take size (drop (row * size) bytes)

-- the values that a row of these bytes admits, where every row has as many, and means a set
abbrev pub RowsAdmit : ℕ → (List ℕ → ℕ → Type 0) → List ℕ → ℕ → ℕ → Type 0
RowsAdmit size meant bytes row = InRow (length bytes / size) row (meant (row_at size bytes row))
