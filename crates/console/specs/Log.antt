-- Computed: the entry that an event is put to a session with.
use Rattle.std.specs.Prelude.{None}
use Rattle.events.specs.declared.call.Call.TheVariants.{Judge}
use Rattle.events.specs.declared.call.Entry.{Entry}
use Rattle.events.specs.declared.event.Event.{Event}

abbrev pub unanswered : Event → Entry
unanswered e = record { call = Judge e; answer = None }
