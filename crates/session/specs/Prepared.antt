-- Computed: what a session finds of an event before it asks its book.
use Rattle.std.specs.Prelude.{ℕ, Bool, false, cond, ◌&&◌, ◌||◌, List, [], ◌∷◌, length, Some, None, Ok, Err, Option, Result, ◌==◌, nat_le, nat_lt, slice_index_or}
use Rattle.sheet.specs.declared.counts.Counts.{Counts}
use Rattle.channels.specs.Waiting.{channel}
use Rattle.events.specs.declared.event.Event.{Event}
use Rattle.events.specs.declared.message.Message.{Message}
use Rattle.parting.specs.declared.accepted.Accepted.{Accepted}
use Rattle.parting.specs.declared.local.LocalKind.{LocalKind}
use Rattle.parting.specs.declared.local.LocalKind.TheVariants.{Finished, Sending, Receiving}
use Rattle.parting.specs.declared.local.LocalSet.{LocalSet}
use Rattle.parting.specs.declared.local.Move.{Move}
use Rattle.events.specs.declared.fault.SessionFault.{SessionFault}
use Rattle.events.specs.declared.fault.SessionFault.TheVariants.{Who, What, Back, Turn, Line, Full}
use Rattle.session.specs.declared.inner.Inner.{Inner}
use Rattle.session.specs.declared.step.Direction.{Direction}
use Rattle.session.specs.declared.step.Direction.TheVariants.{Sends, Takes}
use Rattle.session.specs.declared.step.Step.{Step}
use Rattle.session.specs.Kept.{record_of, set_at}

-- set i in the part of role m, where the sheet has the role and a part can have the set
abbrev pub set_in_part : Accepted → ℕ → ℕ → Option LocalSet
set_in_part accepted m i = cond (nat_lt m accepted.counts.roles && nat_lt i 32) (Some (set_at accepted m i)) None

-- how a role goes on from a set under a label
abbrev pub move_in_set : LocalSet → ℕ → Option Move
move_in_set s label = cond (nat_lt label 32) (slice_index_or s.moves label None) None

-- whether a role that does this in its set goes that way with that partner
abbrev pub direction_in : LocalKind → ℕ → ℕ → Option Direction
direction_in Finished direction partner = None
direction_in (Sending to) direction partner = cond (direction == 0 && partner == to) (Some Sends) None
direction_in (Receiving from) direction partner = cond (direction == 1 && partner == from) (Some Takes) None

abbrev pub steps : Option Direction → Option Move → Option Step
steps None m = None
steps (Some d) None = None
steps (Some d) (Some to) = Some (record { direction = d; to = to })

-- the step that an event is in a set
abbrev pub step_for : LocalSet → Event → Option Step
step_for s e = steps (direction_in s.kind e.direction e.partner) (move_in_set s e.label)

abbrev pub step_in : Option LocalSet → Event → Option Step
step_in None e = None
step_in (Some s) e = step_for s e

abbrev pub oldest_is : List Message → ℕ → Bool
oldest_is [] label = false
oldest_is (x ∷ xs) label = x.label == label

-- whether a sending's channel has room, and a taking's the message
abbrev pub lined_by : Inner → Event → Step → Direction → Result Step SessionFault
lined_by inner e step Sends = cond (nat_lt (length (channel inner.channels e.role e.partner)) inner.depth) (Ok step) (Err (Full e.role e.label))
lined_by inner e step Takes = cond (oldest_is (channel inner.channels e.partner e.role) e.label) (Ok step) (Err (Line e.role e.label))

abbrev pub lined : Inner → Event → Step → Result Step SessionFault
lined inner e step = lined_by inner e step step.direction

abbrev pub turned : Inner → Event → Option Step → Result Step SessionFault
turned inner e None = Err (Turn e.role e.label)
turned inner e (Some step) = lined inner e step

abbrev pub unknown : Counts → Event → Bool
unknown counts e = nat_le counts.roles e.role || nat_le counts.roles e.partner || e.role == e.partner

abbrev pub unworded : Counts → Event → Bool
unworded counts e = nat_le counts.labels e.label || nat_lt 1 e.direction

abbrev pub prepared : Accepted → Inner → Event → Result Step SessionFault
prepared accepted inner e =
    cond (unknown accepted.counts e) (Err (Who e.role e.label))
    (cond (unworded accepted.counts e) (Err (What e.role e.label))
    (cond (nat_lt e.tick inner.latest) (Err (Back e.role e.label))
    (turned inner e (step_in (set_in_part accepted e.role (record_of inner e.role).set) e))))
