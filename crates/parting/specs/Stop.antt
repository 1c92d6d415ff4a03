-- Meaning: the stop of each fault, with its number and places.
use Rattle.stops.specs.Stops.{stop_of}
use Rattle.stops.specs.declared.stop.Stop.{Stop}
use Rattle.parting.specs.declared.fault.PartFault.{PartFault}
use Rattle.parting.specs.declared.fault.PartFault.TheVariants.{Crossed, Offer, Clash, Untold, Sets}

abbrev pub stopped : PartFault → Stop
stopped (Crossed role set) = stop_of 21 role set
stopped (Offer role set) = stop_of 22 role set
stopped (Clash role set) = stop_of 23 role set
stopped (Untold role set) = stop_of 24 role set
stopped (Sets role set) = stop_of 25 role set
