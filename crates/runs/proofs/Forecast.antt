-- What a forecast can be computed from: the actions of the role's set, room in its channels, and its clock.
use Rattle.std.proofs.Common.{◌≡◌, ℕ, ◌-◌, ◌<◌, ◌≤◌, Bool, true, false, cond, ◌↔◌, List, [], ◌∷◌, length, sym, refl, subst, subst₂}
use Rattle.std.specs.List.{AllByRecursion}
use Rattle.sheet.specs.Model.{Sheet}
use Rattle.sheet.specs.Valid.{Valid}
use Rattle.protocol.specs.Actions.{Way, sends, receives, Timing, Action}
use Rattle.protocol.specs.Paths.{share}
use Rattle.protocol.proofs.Known.{action_known}
use Rattle.events.specs.declared.event.Event.{Event}
use Rattle.runs.specs.Events.{direction_of, own}
use Rattle.runs.specs.Run.{Book, Admits, Fits, timings, last_reset}
use Rattle.runs.specs.Monitor.{Monitor, InSet, Able, Room}
use Rattle.runs.specs.Stands.{last_tick, Stands}
use Rattle.runs.specs.Laws.{CouldPass}
use Rattle.runs.proofs.Channelled.{rising_late, all_own}
use Rattle.runs.proofs.Agree.{direction_small}

-- the event by which role m does that action at that tick
abbrev pub as_event : ℕ → Action → ℕ → Event
as_event m a t = record { role = m; direction = direction_of a.way; partner = a.partner; label = a.label; tick = t }

-- room does not hang on the tick
pub room_any_tick : (depth : ℕ) (σ : Monitor) (m : ℕ) (a : Action) (t u : ℕ) (w : Way) → Room depth σ (as_event m a t) w → Room depth σ (as_event m a u) w
room_any_tick depth σ m a t u sends r = r
room_any_tick depth σ m a t u receives r = r

-- an action of the role's set that could be done at tick t
pub record CouldDo (sh : Sheet) (book : Book) (depth : ℕ) (σ : Monitor) (m t : ℕ) (a : Action) : Type 0 where
  pub able : Able sh m (InSet σ m) a
  pub room : Room depth σ (as_event m a t) a.way
  pub holds : Admits book a.timing (t - σ.since m)
  pub in_time : σ.latest ≤ t

abbrev five : ℕ → ℕ → ℕ → ℕ → ℕ → Event
five r d p l t = record { role = r; direction = d; partner = p; label = l; tick = t }

pub fits_event : (e : Event) (a : Action) → Fits e a → as_event e.role a e.tick ≡ e
fits_event e a f =
    let q : five e.role (direction_of a.way) a.partner a.label e.tick ≡ five e.role e.direction e.partner e.label e.tick = rw (f.direction, f.partner, f.label) in
    q

-- some event of the role passes at tick t exactly when some action of its set could be done then
pub could_by_action : (sh : Sheet) (book : Book) → Valid sh → (depth : ℕ) (σ : Monitor) (m t : ℕ) → CouldPass sh book depth σ m t ↔ ((a : Action) × CouldDo sh book depth σ m t a)
could_by_action sh book valid depth σ m t = (there, back)
  where
    there : CouldPass sh book depth σ m t → (a : Action) × CouldDo sh book depth σ m t a
    there x =
        let e : Event = x.0 in
        let p = x.3 in
        let is : as_event m p.action t ≡ e = subst₂ (λ (n u : ℕ). as_event n p.action u ≡ e) x.1 x.2 (fits_event e p.action p.fits) in (
          p.action,
          record {
            able = subst (λ (n : ℕ). Able sh n (InSet σ n) p.action) x.1 p.able;
            room = subst (λ (z : Event). Room depth σ z p.action.way) (sym is) p.room;
            holds = subst₂ (λ (n u : ℕ). Admits book p.action.timing (u - σ.since n)) x.1 x.2 p.holds;
            in_time = subst (λ (u : ℕ). σ.latest ≤ u) x.2 p.in_time;
          },
        )

    back : (a : Action) × CouldDo sh book depth σ m t a → CouldPass sh book depth σ m t
    back y =
        let a : Action = y.0 in
        let c = y.1 in
        let step = c.able.acts.1 in
        let known = action_known sh valid m step.place step.has a step.acts in (
          as_event m a t,
          refl,
          refl,
          record {
            role_known = known.0;
            partner_known = known.1;
            apart = known.2;
            label_known = known.3;
            direction_known = direction_small (as_event m a t) a.way refl;
            in_time = c.in_time;
            action = a;
            able = c.able;
            fits = record { direction = refl; partner = refl; label = refl };
            room = c.room;
            holds = c.holds;
          },
        )

-- no clock was reset after the latest tick
reset_late : (o t : ℕ) (es : List Event) (ts : List Timing) → o ≤ t → AllByRecursion (λ e. e.tick ≤ t) es → last_reset o es ts ≤ t
reset_late o t [] ts l k = l
reset_late o t (e ∷ es) [] l k = l
reset_late o t (e ∷ es) (u ∷ ts) l k = reset_late (cond u.reset e.tick o) t es ts (either u.reset) k.1
  where
    either : (b : Bool) → cond b e.tick o ≤ t
    either true = k.0
    either false = l

pub since_latest : (sh : Sheet) (book : Book) (o d : ℕ) (es : List Event) (σ : Monitor) → Stands sh book o d es σ → (m : ℕ) → m < length sh.roles → σ.since m ≤ σ.latest
since_latest sh book o d es σ k m l =
    let late = rising_late o es k.run.ticks in
    let x : last_reset o (own m es) (timings (share m k.run.path)) ≤ last_tick o es = reset_late o (last_tick o es) (own m es) (timings (share m k.run.path)) late.0 (all_own (λ e. e.tick ≤ last_tick o es) m es late.1) in
    subst₂ (λ (a b : ℕ). a ≤ b) (sym (k.since m l)) (sym k.latest) x

-- the opening tick is no later than the latest
pub opening_latest : (sh : Sheet) (book : Book) (o d : ℕ) (es : List Event) (σ : Monitor) → Stands sh book o d es σ → o ≤ σ.latest
opening_latest sh book o d es σ k = rw k.latest (rising_late o es k.run.ticks).0
