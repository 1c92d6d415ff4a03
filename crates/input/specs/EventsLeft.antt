-- Computed: the events that an iterator over events has left.
use Rattle.std.specs.Prelude.{List}
use Rattle.events.specs.declared.event.Event.{Event}
use Rattle.input.specs.declared.event.Events.{Events}
use Rattle.input.specs.Events.{events_in}

abbrev pub events_left : Events → List Event
events_left s = events_in s.left.now
