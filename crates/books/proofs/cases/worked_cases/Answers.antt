use Rattle.std.proofs.Common.{◌≡◌, ℕ, true, false, Some, None, Option, refl, arith}
use Rattle.books.specs.declared.fault.BookFault.{BookFault}
use Rattle.books.specs.declared.margin.Margin.{Margin}
use Rattle.books.specs.declared.row_book.RowBook.{RowBook}
use Rattle.book_rows.specs.declared.slot.Slot.{Slot}
use Rattle.book_rows.specs.declared.window.Window.{Window}
use Rattle.book_rows.specs.Bytes.{number_of}
use Rattle.books.specs.Cases.{bytes_of_slot, bytes_of_window}
use Rattle.books.specs.Faults.{fault_of}
use Rattle.books.specs.Margins.{Near}
use Rattle.book_rows.specs.Sets.{Same}
use Rattle.book_rows.specs.Slots.{InSlot, slot_rule, SlotAdmits}
use Rattle.book_rows.specs.Windows.{InWindow, window_rule, WindowAdmits}
use Rattle.books.specs.Tables.{AmongRows}
use Rattle.books.proofs.Agreeing.{next_by, holds_by}
use Rattle.books.proofs.Nearing.{near_same}
use Rattle.books.proofs.Working.{worked}
use Rattle.books.proofs.cases.worked_cases.Goals as goal

slots_legal : fault_of 12 slot_rule bytes_of_slot ≡ None
unfolding number_of
slots_legal = refl

window_legal : fault_of 8 window_rule bytes_of_window ≡ None
unfolding number_of
window_legal = refl

refused : (e : BookFault) (o : Option BookFault) → Some e ≡ o → o ≡ None → ⊥
refused e o p q = let z : ◌≡◌ {A = ℕ} 0 1 = cc in omega arith

pub returns-in_err-slots : goal.returns-in_err-slots
returns-in_err-slots c = absurd (refused _ _ c.in_err-slots.ensures.fault slots_legal)

pub returns-in_err-read : goal.returns-in_err-read
returns-in_err-read c = absurd (refused _ _ c.in_err-read.ensures.fault window_legal)

-- the sets of the one row of each book
abbrev slots_row : RowBook Slot → ℕ → Type 0
slots_row b = AmongRows (λ (s : Slot). InSlot s.period s.first s.width) b.rows.items 0

abbrev windows_row : RowBook Window → ℕ → Type 0
windows_row b = AmongRows (λ (w : Window). InWindow w.low w.high) b.rows.items 0

-- a margin over a book with the values of Q has the values of the margin over Q
near_by : {B : Type 0} (admits : B → ℕ → Type 0) (Q : ℕ → Type 0) (b : B) (by : ℕ) (m : Margin B) → ((u : ℕ) → Same (admits b u) (Q u)) → m ≡ record { below = b; by = by }
    → (u : ℕ) → Same (Near (admits m.below) m.by u) (Near Q by u)
near_by admits Q b by m same is u = rw is (near_same (admits b) Q by same u)

pub returns : goal.returns
returns c =
    let slots = next_by _ (SlotAdmits bytes_of_slot 0) (c.in_ok-slots.ensures.book.1 0) in
    let near_slots = next_by _ (Near (SlotAdmits bytes_of_slot 0) 3) (near_by slots_row _ c.in_ok-slots.slots 3 c.over.result (c.in_ok-slots.ensures.book.1 0) c.over.ensures) in
    let windows = holds_by _ (Near (WindowAdmits bytes_of_window 0) 2) (near_by windows_row _ c.in_ok-read.field-0 2 c.over-windows.result (c.in_ok-read.ensures.book.1 0) c.over-windows.ensures) in
    let e1 : c.next-early.result ≡ Some 10 = slots 9 _ (Some 10) c.next-early.ensures worked.nexts.0 in
    let e2 : c.next-inside.result ≡ Some 14 = slots 14 _ (Some 14) c.next-inside.ensures worked.nexts.1 in
    let e3 : c.next-late.result ≡ Some 110 = slots 15 _ (Some 110) c.next-late.ensures worked.nexts.2 in
    let e4 : c.next-last.result ≡ None = slots 4294967280 _ None c.next-last.ensures worked.none in
    let e5 : c.next-near_slots.result ≡ Some 107 = near_slots 18 _ (Some 107) c.next-near_slots.ensures worked.far in
    let h1 : c.holds-below.result ≡ true = windows 18 _ true c.holds-below.ensures worked.within.0 in
    let h2 : c.holds-above.result ≡ true = windows 42 _ true c.holds-above.ensures worked.within.1 in
    let h3 : c.holds-under.result ≡ false = windows 17 _ false c.holds-under.ensures worked.without.0 in
    let h4 : c.holds-over.result ≡ false = windows 43 _ false c.holds-over.ensures worked.without.1 in
    record { answers = cc; meaning = worked }
