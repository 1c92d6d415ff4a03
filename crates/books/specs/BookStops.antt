-- Meaning: the stop of each fault of a book.
use Rattle.stops.specs.Stops.{stop_of}
use Rattle.stops.specs.declared.stop.Stop.{Stop}
use Rattle.books.specs.declared.fault.BookFault.{BookFault}
use Rattle.books.specs.declared.fault.BookFault.TheVariants.{Rows, Row}

-- 11 ROWS with the bytes given, 12 ROW with the row
abbrev pub book_stop : BookFault → Stop
book_stop (Rows given) = stop_of 11 given 0
book_stop (Row row) = stop_of 12 row 0
