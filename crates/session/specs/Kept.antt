-- Meaning: what a session keeps, as a monitor.
use Rattle.std.specs.Prelude.{ℕ, [], get_or, slice_index_or}
use Rattle.channels.specs.Waiting.{channel}
use Rattle.parting.specs.declared.accepted.Accepted.{Accepted}
use Rattle.parting.specs.declared.local.LocalKind.TheVariants.{Finished}
use Rattle.parting.specs.declared.local.LocalSet.{LocalSet}
use Rattle.parting.specs.Blank.{no_part}
use Rattle.parting.specs.Masks.{has}
use Rattle.runs.specs.Monitor.{Monitor}
use Rattle.session.specs.declared.inner.Inner.{Inner}
use Rattle.session.specs.declared.record.Record.{Record}

-- what stands for a record or a set past the end of a table; it is never read
abbrev pub no_record : Record
no_record = record { set = 0; since = 0 }

abbrev pub no_set : LocalSet
no_set = record { states = 0; kind = Finished; moves = [] }

-- role m's record
abbrev pub record_of : Inner → ℕ → Record
record_of inner m = slice_index_or inner.records m no_record

-- set i in the part of role m
abbrev pub set_at : Accepted → ℕ → ℕ → LocalSet
set_at accepted m i = slice_index_or (get_or accepted.parts.items m no_part).sets i no_set

-- each role's set is the one that its record numbers, its clock was reset at its record's tick, and channels and latest
-- tick are as they are kept
abbrev pub monitor_of : Accepted → Inner → Monitor
monitor_of accepted inner = record {
  set = λ m s. has (set_at accepted m (record_of inner m).set).states s;
  since = λ m. (record_of inner m).since;
  channel = channel inner.channels;
  latest = inner.latest;
}
