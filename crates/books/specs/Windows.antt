-- Meaning: the window book. A row has 8 bytes: low, then high. Its set is low to high. Passed on from the rows.
pub use Rattle.book_rows.specs.Windows.{low_of, high_of, WindowRule, window_rule, window_decided, InWindow, WindowAdmits}
