-- What a pass changes is what the model of a monitor changes, and what it answers is read off the events.
use Rattle.std.proofs.Common.{◌≡◌, ℕ, ◌-◌, ◌<◌, ◌≤◌, cond, eqb, ◌≢◌, ◌⊎◌, List, [], ◌∷◌, ◌++◌, length, get_or, set, Decides, sym, ap, ◌∙◌, subst, inl, inr, arith, get_or-set_other, get_or-set_same}
use Rattle.std.proofs.lemmas.Bool.{cases_eq, cond-true, cond-false, eq-eqb, ne_eqb}
use Rattle.sheet.specs.Model.{Sheet}
use Rattle.protocol.specs.Sets.{Successor}
use Rattle.events.specs.declared.event.Event.{Event}
use Rattle.parting.specs.declared.accepted.Accepted.{Accepted}
use Rattle.parting.specs.Blank.{no_part}
use Rattle.parting.specs.Masks.{has}
use Rattle.runs.specs.Events.{direction_of}
use Rattle.runs.specs.Run.{Book}
use Rattle.runs.specs.Waiting.{waiting, oldest_tick, under_way}
use Rattle.runs.specs.Monitor.{Monitor, InSet, Room, Passes, Changes, channel_after}
use Rattle.runs.specs.Stands.{Stands}
use Rattle.runs.specs.Laws.{Keeps}
use Rattle.runs.proofs.Foresee.{keeping}
use Rattle.runs.proofs.Judging.{accepted_steady}
use Rattle.channels.specs.Waiting.{channel}
use Rattle.session.specs.declared.inner.Inner.{Inner}
use Rattle.session.specs.declared.record.Record.{Record}
use Rattle.session.specs.declared.step.Direction.{Direction}
use Rattle.session.specs.declared.step.Direction.TheVariants.{Sends, Takes}
use Rattle.session.specs.declared.step.Step.{Step}
use Rattle.session.specs.Admitted.{Timed}
use Rattle.session.specs.Delivered.{way_of, Delivered}
use Rattle.session.specs.Kept.{no_record, no_set, record_of, set_at, monitor_of}
use Rattle.session.specs.Outcomes.{answer_of, Passing}
use Rattle.session.specs.Watches.{Watches}
use Rattle.session.proofs.Verdict.{Found, StepIs, direction_is, step_passes}

-- what a pass leaves in the plain struct
pub record Leaves (old : Inner) (e : Event) (step : Step) (new : Inner) (answer : ℕ) : Type 0 where
  pub records : new.records ≡ set old.records e.role (record { set = step.to.next; since = cond step.to.reset e.tick (record_of old e.role).since })
  pub latest : new.latest ≡ e.tick
  pub depth : new.depth ≡ old.depth
  pub channels : Delivered step.direction old.channels e new.channels answer

module _ (sh : Sheet) (book : Book) (opening depth : ℕ) (es : List Event) (accepted : Accepted) (old : Inner) (w : Watches sh book opening depth es accepted old) where
  pub keeps : Keeps sh book opening depth
  keeps = keeping book sh w.sheet.valid (accepted_steady sh w.sheet.parted) opening depth

  module _ (e : Event) (step : Step) (s : StepIs sh book opening depth es accepted old w e step) (new : Inner) (answer : ℕ) (l : Leaves old e step new answer) (six : 6 ≤ length old.records) where
    abbrev σ : Monitor
    σ = monitor_of accepted old

    abbrev τ : Monitor
    τ = monitor_of accepted new

    abbrev written : Record
    written = record { set = step.to.next; since = cond step.to.reset e.tick (record_of old e.role).since }

    abbrev f : Found sh book opening depth es accepted old w e step
    f = s.found

    role_small : e.role < length old.records
    role_small = let a = f.known.role in let b = w.sheet.valid.role_count.1 in omega (arith, a, b, six)

    -- the role's record, and every other's
    own_record : record_of new e.role ≡ written
    own_record = ap (λ rs. get_or rs e.role no_record) l.records ∙ get_or-set_same old.records e.role written no_record role_small

    other_record : (m : ℕ) → m ≢ e.role → record_of new m ≡ record_of old m
    other_record m apart = ap (λ rs. get_or rs m no_record) l.records ∙ get_or-set_other old.records e.role m written no_record apart

    fits_six : (n : ℕ) → n < length sh.roles → n < 6
    fits_six n h = let b = w.sheet.valid.role_count.1 in omega (arith, h, b)

    -- the channels, by direction
    delivered : (d : Direction) → Room depth σ e (way_of d) → Delivered d old.channels e new.channels answer → (a b : ℕ) → channel new.channels a b ≡ channel_after (channel old.channels) e (way_of d) a b
    delivered Sends room d = (d (fits_six e.role f.known.role) (fits_six e.partner f.known.partner) (let a = w.shallow in omega (arith, a, room))).0
    delivered Takes room d = d.0

    reset_is : f.action.timing.reset ≡ step.to.reset
    reset_is = (f.leads.timing f.able.state f.able.inside f.action f.able.acts (sym f.fits.label)).1

    changes : Changes sh σ e f.action τ
    changes = record {
      set = λ x. subst (λ r. Decides (has (set_at accepted e.role r.set).states x) (Successor sh e.role (InSet σ e.role) e.label x)) (sym own_record) (f.leads.successor no_set x);
      set_kept = λ m x k apart. ap (λ r. has (set_at accepted m r.set).states x) (other_record m apart);
      since = ap (λ r. r.since) own_record ∙ ap (λ b. cond b e.tick (record_of old e.role).since) (sym reset_is);
      since_kept = λ m k apart. ap (λ r. r.since) (other_record m apart);
      channel = λ a b ha hb. delivered step.direction s.room l.channels a b ∙ ap (λ x. channel_after (channel old.channels) e x a b) (sym f.way);
      latest = l.latest;
    }

    module _ (timed : Timed book old e step) where
      abbrev passes : Passes sh book depth σ e
      passes = step_passes sh book opening depth es accepted old w e step s timed

      stands : Stands sh book opening depth (es ++ (e ∷ [])) τ
      stands = keeps.goes_on es σ τ w.stands e passes changes

      numbered : (m : ℕ) → m < length sh.roles → (record_of new m).set < (get_or accepted.parts.items m no_part).count
      numbered m k = go (cases_eq m e.role)
        where
          go : (m ≡ e.role) ⊎ (m ≡ e.role → ⊥) → (record_of new m).set < (get_or accepted.parts.items m no_part).count
          go (inl q) = subst (λ n. (record_of new n).set < (get_or accepted.parts.items n no_part).count) (sym q) (subst (λ r. r.set < (get_or accepted.parts.items e.role no_part).count) (sym own_record) f.leads.next)
          go (inr q) = subst (λ r. r.set < (get_or accepted.parts.items m no_part).count) (sym (other_record m q)) (w.numbers m k)

      pub watches_on : Watches sh book opening depth (es ++ (e ∷ [])) accepted new
      watches_on = record { sheet = w.sheet; depth_kept = l.depth ∙ w.depth_kept; shallow = w.shallow; numbers = numbered; stands = stands }

      -- the answer, by direction
      answers : (d : Direction) → e.direction ≡ direction_of (way_of d) → Room depth σ e (way_of d) → Delivered d old.channels e new.channels answer → answer ≡ answer_of es e
      answers Sends q room d =
          let told = (d (fits_six e.role f.known.role) (fits_six e.partner f.known.partner) (let a = w.shallow in omega (arith, a, room))).1 in
          let same = stands.channel e.role e.partner f.known.role f.known.partner in
          told ∙ ap length same ∙ sym (cond-true (eqb e.direction 0) (length (waiting e.role e.partner (es ++ (e ∷ [])))) (under_way es e) (eq-eqb e.direction 0 q))
      answers Takes q room d =
          let told = d.1 room.0 room.1 room.2 in
          let oldest : oldest_tick (waiting e.partner e.role es) ≡ room.0.tick = ap oldest_tick (sym (w.stands.channel e.partner e.role f.known.partner f.known.role) ∙ room.2) in
          told ∙ ap (λ t. e.tick - t) (sym oldest) ∙ sym (cond-false (eqb e.direction 0) (length (waiting e.role e.partner (es ++ (e ∷ [])))) (under_way es e) (ne_eqb e.direction 0 (λ z. omega (arith, q, z))))

      pub passing : Passing sh book opening depth es e answer
      passing = record {
        run = (keeps.agrees es σ w.stands e).0 passes;
        answers = answers step.direction (direction_is sh book opening depth es accepted old w e step f) s.room l.channels;
      }
