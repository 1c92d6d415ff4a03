-- Meaning: `next` gives the least value of a row's set at or above the one asked, or none. Passed on from the rows.
pub use Rattle.book_rows.specs.Nexts.{LeastFrom, NoneFrom, Next}
