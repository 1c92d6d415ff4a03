-- Meaning: the slot book. A row has 12 bytes: period, first, width. Its set is the values whose remainder by the period is at least first and below first + width. Passed on from the rows.
pub use Rattle.book_rows.specs.Slots.{period_of, first_of, width_of, SlotRule, slot_rule, slot_decided, InSlot, SlotAdmits}
