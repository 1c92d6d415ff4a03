-- Meaning: the stop of each fault, with its number and place.
use Rattle.stops.specs.Stops.{stop_of}
use Rattle.stops.specs.declared.stop.Stop.{Stop}
use Rattle.sheet.specs.declared.fault.ReadFault.{ReadFault}
use Rattle.sheet.specs.declared.fault.ReadFault.TheVariants.{Short, Edition, Count, Pair, Byte, Twice, State}

abbrev pub stopped : ReadFault → Stop
stopped (Short given) = stop_of 1 given 0
stopped Edition = stop_of 2 0 0
stopped (Count byte) = stop_of 3 byte 0
stopped (Pair pair) = stop_of 4 pair 0
stopped (Byte offset) = stop_of 5 offset 0
stopped (Twice pair) = stop_of 6 pair 0
stopped (State offset) = stop_of 7 offset 0
