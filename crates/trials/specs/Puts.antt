-- Computed: the call that a row of a table of cases stands for.
use Rattle.events.specs.declared.call.Call.{Call}
use Rattle.events.specs.declared.call.Call.TheVariants as call
use Rattle.trials.specs.declared.put.Put.{Put}
use Rattle.trials.specs.declared.put.Put.TheVariants.{Event, Forecast}

abbrev pub call_for : Put → Call
call_for (Event role direction partner label tick) = call.Judge (record { role = role; direction = direction; partner = partner; label = label; tick = tick })
call_for (Forecast role) = call.Forecast role
