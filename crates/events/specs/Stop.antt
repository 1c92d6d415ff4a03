-- Computed: the stop of each fault of a session.
use Rattle.stops.specs.declared.stop.Stop.{Stop}
use Rattle.stops.specs.Stops.{stop_of}
use Rattle.events.specs.declared.fault.SessionFault.{SessionFault}
use Rattle.events.specs.declared.fault.SessionFault.TheVariants.{Book, Depth, Who, What, Back, Turn, Line, Full, Time}

abbrev pub stopped : SessionFault → Stop
stopped (Book rows) = stop_of 31 rows 0
stopped (Depth depth) = stop_of 32 depth 0
stopped (Who role label) = stop_of 41 role label
stopped (What role label) = stop_of 42 role label
stopped (Back role label) = stop_of 43 role label
stopped (Turn role label) = stop_of 44 role label
stopped (Line role label) = stop_of 45 role label
stopped (Full role label) = stop_of 46 role label
stopped (Time role label) = stop_of 47 role label
