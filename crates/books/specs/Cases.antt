-- Meaning: the worked cases of the books.
use Rattle.std.specs.Prelude.{ℕ, true, false, List, [], ◌∷◌, Some, None}
use Rattle.books.specs.Margins.{Near}
use Rattle.book_rows.specs.Nexts.{Next}
use Rattle.book_rows.specs.Sets.{Holds}
use Rattle.book_rows.specs.Slots.{SlotAdmits}
use Rattle.book_rows.specs.Windows.{WindowAdmits}
use Rattle.books.specs.declared.cases.BookCases.{BookCases}

-- one row: period 100, first 10, width 5
abbrev pub bytes_of_slot : List ℕ
bytes_of_slot = 0 ∷ 0 ∷ 0 ∷ 100 ∷ 0 ∷ 0 ∷ 0 ∷ 10 ∷ 0 ∷ 0 ∷ 0 ∷ 5 ∷ []

-- one row: low 20, high 40
abbrev pub bytes_of_window : List ℕ
bytes_of_window = 0 ∷ 0 ∷ 0 ∷ 20 ∷ 0 ∷ 0 ∷ 0 ∷ 40 ∷ []

-- what their rows mean
pub record Worked : Type 0 where
  pub nexts : Next (SlotAdmits bytes_of_slot 0) 9 (Some 10) × Next (SlotAdmits bytes_of_slot 0) 14 (Some 14) × Next (SlotAdmits bytes_of_slot 0) 15 (Some 110)
  pub none : Next (SlotAdmits bytes_of_slot 0) 4294967280 None
  pub within : Holds (Near (WindowAdmits bytes_of_window 0) 2) 18 true × Holds (Near (WindowAdmits bytes_of_window 0) 2) 42 true
  pub without : Holds (Near (WindowAdmits bytes_of_window 0) 2) 17 false × Holds (Near (WindowAdmits bytes_of_window 0) 2) 43 false
  pub far : Next (Near (SlotAdmits bytes_of_slot 0) 3) 18 (Some 107)

-- what the books answer
abbrev pub book_cases : BookCases
book_cases = record {
  slots = Some 10 ∷ Some 14 ∷ Some 110 ∷ None ∷ [];
  near_window = true ∷ true ∷ false ∷ false ∷ [];
  near_slots = Some 107;
}
