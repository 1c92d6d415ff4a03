-- Computed: the fault of a book's bytes, found row by row. The clause `judged` of `read` ties it to what the rule says.
use Rattle.std.specs.Prelude.{ℕ, zero, suc, ◌+◌, ◌/◌, ◌%◌, Bool, cond, ◌&&◌, List, length, Some, None, Option, ◌==◌, nat_le}
use Rattle.book_rows.specs.Bytes.{row_at}
use Rattle.books.specs.declared.fault.BookFault.{BookFault}
use Rattle.books.specs.declared.fault.BookFault.TheVariants.{Rows, Row}

abbrev pub whole : ℕ → List ℕ → Bool
whole size bytes = length bytes % size == 0 && nat_le (length bytes / size) 64

-- the fault of the first of n rows, from row i on, that fails the test
abbrev pub bad_from : ℕ → (List ℕ → Bool) → List ℕ → ℕ → ℕ → Option BookFault
bad_from size rule bytes i zero = None
bad_from size rule bytes i (suc n) = cond (rule (row_at size bytes i)) (bad_from size rule bytes (i + 1) n) (Some (Row i))

abbrev pub fault_of : ℕ → (List ℕ → Bool) → List ℕ → Option BookFault
fault_of size rule bytes = cond (whole size bytes) (bad_from size rule bytes 0 (length bytes / size)) (Some (Rows (length bytes)))
