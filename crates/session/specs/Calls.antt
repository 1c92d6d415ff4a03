-- Meaning: what the answers to a list of calls have to be, by runs of the sheet alone.
use Rattle.std.specs.Prelude.{ℕ, List, [], ◌∷◌, ◌++◌, map, Some, None, Ok, Err, Option, Result}
use Rattle.sheet.specs.Model.{Sheet}
use Rattle.events.specs.declared.event.Event.{Event}
use Rattle.runs.specs.Run.{Book}
use Rattle.events.specs.declared.call.Call.{Call}
use Rattle.events.specs.declared.call.Call.TheVariants.{Judge, Forecast}
use Rattle.events.specs.declared.call.Entry.{Entry}
use Rattle.events.specs.declared.call.Reply.{Reply}
use Rattle.events.specs.declared.call.Reply.TheVariants.{Passed, Next}
use Rattle.events.specs.declared.fault.SessionFault.{SessionFault}
use Rattle.session.specs.Outcomes.{Passing, Stopping, Forecasting, NoRole}

-- what a call is answered, and none where it is not asked yet
abbrev pub Answer : Type 0
Answer = Option (Result Reply SessionFault)

-- the answer that a call has to get after the events es passed
abbrev pub Right : Sheet → Book → ℕ → ℕ → List Event → Call → Answer → Type 0
Right sh book opening depth es (Judge e) (Some (Ok (Passed n))) = Passing sh book opening depth es e n
Right sh book opening depth es (Judge e) (Some (Err fault)) = Stopping sh book opening depth es e fault
Right sh book opening depth es (Forecast role) (Some (Ok (Next tick))) = Forecasting sh book opening depth es role tick
Right sh book opening depth es (Forecast role) (Some (Err fault)) = NoRole sh role fault
Right sh book opening depth es (Judge e) (Some (Ok (Next tick))) = ⊥
Right sh book opening depth es (Judge e) None = ⊥
Right sh book opening depth es (Forecast role) (Some (Ok (Passed n))) = ⊥
Right sh book opening depth es (Forecast role) None = ⊥

-- the events that have passed once a call is answered: one more after an event that passed, else the same
abbrev pub after : List Event → Call → Answer → List Event
after es (Judge e) (Some (Ok (Passed n))) = es ++ (e ∷ [])
after es (Judge e) (Some (Err fault)) = es
after es (Judge e) (Some (Ok (Next tick))) = es
after es (Judge e) None = es
after es (Forecast role) a = es

-- the events that have passed once all of these are answered
abbrev pub passed : List Event → List Entry → List Event
passed es [] = es
passed es (x ∷ xs) = passed (after es x.call x.answer) xs

-- Each answer is the right one after the events that passed before it.
abbrev pub Prescribed : Sheet → Book → ℕ → ℕ → List Event → List Entry → Type 0
Prescribed sh book opening depth es [] = Unit {0}
Prescribed sh book opening depth es (x ∷ xs) = Right sh book opening depth es x.call x.answer × Prescribed sh book opening depth (after es x.call x.answer) xs

abbrev pub call_of : Entry → Call
call_of x = x.call

abbrev pub calls : List Entry → List Call
calls xs = map call_of xs
