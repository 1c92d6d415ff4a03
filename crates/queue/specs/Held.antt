-- Meaning: what a queue holds.
use Rattle.std.specs.Prelude.{List}
use Rattle.queue.specs.Ring.{held}
use Rattle.queue.specs.declared.queue.Queue.{Queue}

-- from the oldest element to the newest
abbrev pub inside : {T : Type 0} → Queue T → List T
inside q = held q.slots.now q.first q.count

abbrev pub slots_of : {T : Type 0} → Queue T → List T
slots_of q = q.slots.now
