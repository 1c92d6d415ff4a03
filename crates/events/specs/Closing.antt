-- Computed: the stop that closing answers, if any.
use Rattle.std.specs.Prelude.{Some, None, Ok, Err, Option, Result}
use Rattle.stops.specs.declared.stop.Stop.{Stop}
use Rattle.stops.specs.Stops.{stop_of}
use Rattle.events.specs.declared.closing.Early.{Early}

abbrev pub early_stop : Early → Stop
early_stop early = stop_of 51 early.role 0

-- none where every role is finished, else the stop 51 with the lowest role that is not
abbrev pub closing_stop : Result (Unit {0}) Early → Option Stop
closing_stop (Ok done) = None
closing_stop (Err early) = Some (early_stop early)
