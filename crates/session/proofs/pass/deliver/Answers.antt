-- A sending that finds a slot is put there.
use Rattle.std.proofs.Common.{◌≡◌, ℕ, ◌<◌, ◌≤◌, cond, ◌&&◌, eqb, [], ◌∷◌, ◌++◌, length, Ok, Err, Result, arith, MatchResult}
use Rattle.events.specs.declared.event.Event.{Event}
use Rattle.events.specs.declared.message.Message.{Message}
use Rattle.channels.specs.declared.channels.Channels.{Channels}
use Rattle.channels.specs.Waiting.{channel}
use Rattle.protocol.specs.Actions.{sends}
use Rattle.runs.specs.Waiting.{message}
use Rattle.runs.specs.Monitor.{channel_after}
use Rattle.session.proofs.pass.deliver.Goals as goal

abbrev Put : Channels → Channels → Event → Type 0
Put old new e = (a b : ℕ) → channel new a b ≡ channel_after (channel old) e sends a b

put : (old new : Channels) (e : Event) (r : Result (Unit {0}) Message) → e.role < 6 → e.partner < 6 → length (channel old e.role e.partner) < 8 →
    MatchResult r
    (λ _. (e.role < 6) × (e.partner < 6) × (length (channel old e.role e.partner) < 8) × ((a b : ℕ) → channel new a b ≡ cond (eqb a e.role && eqb b e.partner) (channel old a b ++ message e ∷ []) (channel old a b)))
    (λ back. (back ≡ message e) × (new ≡ old) × (e.role < 6 → e.partner < 6 → 8 ≤ length (channel old e.role e.partner))) →
    Put old new e
put old new e (Ok x) hr hp room c = c.3
put old new e (Err x) hr hp room c = let full = c.2 hr hp in absurd (omega (arith, full, room))

pub returns-in-Sends : goal.returns-in-Sends
returns-in-Sends c =
    rw c.in-Sends.is (λ hr hp room. (put c.args.channels.now c.send.new.self c.args.event c.send.result hr hp room c.send.ensures, c.count.ensures.value))
