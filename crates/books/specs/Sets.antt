-- Meaning: a row is a set of clock values, and `holds` says whether a value is in it. Passed on from the rows.
pub use Rattle.book_rows.specs.Sets.{Holds, InRow, Same, Bounded}
