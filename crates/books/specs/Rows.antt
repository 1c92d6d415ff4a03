-- Meaning: which bytes are a book's, and which fault the others have.
use Rattle.std.specs.Prelude.{◌≡◌, ℕ, ◌/◌, ◌%◌, ◌<◌, ◌≤◌, List, length, Some, None, Option}
use Rattle.book_rows.specs.Bytes.{row_at}
use Rattle.books.specs.declared.fault.BookFault.{BookFault}
use Rattle.books.specs.declared.fault.BookFault.TheVariants.{Rows, Row}

-- a whole number of rows, and at most 64
abbrev pub Whole : ℕ → List ℕ → Type 0
Whole size bytes = (length bytes % size ≡ 0) × (length bytes / size ≤ 64)

-- the rule holds of each of the first n rows
abbrev pub Ruled : ℕ → (List ℕ → Type 0) → List ℕ → ℕ → Type 0
Ruled size Rule bytes n = (i : ℕ) → i < n → Rule (row_at size bytes i)

-- what is wrong with the bytes of a book with rows of that size and rule: nothing, their length, or the first row against the rule
abbrev pub Judged : ℕ → (List ℕ → Type 0) → List ℕ → Option BookFault → Type 0
Judged size Rule bytes None = Whole size bytes × Ruled size Rule bytes (length bytes / size)
Judged size Rule bytes (Some (Rows given)) = (Whole size bytes → ⊥) × (given ≡ length bytes)
Judged size Rule bytes (Some (Row row)) =
    Whole size bytes × (row < length bytes / size) × (Rule (row_at size bytes row) → ⊥) × Ruled size Rule bytes row
