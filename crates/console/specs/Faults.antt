-- Meaning: which fault keeps an input's events from being watched, and the stop of each.
use Rattle.std.specs.Prelude.{ℕ, List, Some, None, Option}
use Rattle.std.specs.Option.{option_map}
use Rattle.stops.specs.Stops.{stop_of}
use Rattle.stops.specs.declared.stop.Stop.{Stop}
use Rattle.books.specs.BookStops.{book_stop}
use Rattle.books.specs.declared.fault.BookFault.{BookFault}
use Rattle.sheet.specs.Decode.{model}
use Rattle.sheet.specs.Refuse.{fault}
use Rattle.sheet.specs.Stop.{stopped as unread}
use Rattle.parting.specs.Parts.{part_fault}
use Rattle.parting.specs.Stop.{stopped as unparted}
use Rattle.session.specs.Opening.{open_fault}
use Rattle.events.specs.Stop.{stopped as unopened}
use Rattle.console.specs.declared.fault.ConsoleFault.{ConsoleFault}
use Rattle.console.specs.declared.fault.ConsoleFault.TheVariants.{Cut, Reading, Book, Parting, Session}

abbrev pub stop_for : ConsoleFault → Stop
stop_for Cut = stop_of 61 0 0
stop_for (Reading fault) = unread fault
stop_for (Book fault) = book_stop fault
stop_for (Parting fault) = unparted fault
stop_for (Session fault) = unopened fault

-- the first fault of two checks
abbrev pub before : Option ConsoleFault → Option ConsoleFault → Option ConsoleFault
before (Some fault) later = Some fault
before None later = later

-- Reading a sheet, reading a book and parting, in this order. What is wrong with the book's bytes is for its kind to say.
abbrev pub accept_fault : (List ℕ → Option BookFault) → List ℕ → List ℕ → Option ConsoleFault
accept_fault refusal sheet book = before (option_map Reading (fault sheet)) (before (option_map Book (refusal book)) (option_map Parting (part_fault (model sheet))))

-- and then opening a session of depth 8
abbrev pub watch_fault : (List ℕ → Option BookFault) → (List ℕ → ℕ) → List ℕ → List ℕ → Option ConsoleFault
watch_fault refusal rows_in sheet book = before (accept_fault refusal sheet book) (option_map Session (open_fault (model sheet).rows (rows_in book) 8))
