-- Monitor and sheet agree.
use Rattle.std.proofs.Common.{◌≡◌, ℕ, ◌-◌, ◌<◌, ◌≤◌, cond, ◌⊎◌, ◌↔◌, List, [], ◌∷◌, ◌++◌, length, Decides, sym, refl, ap, ◌∙◌, subst, inl, inr, arith}
use Rattle.std.proofs.ByRecursion.{All-push}
use Rattle.std.proofs.lemmas.List.{map_push}
use Rattle.std.proofs.lemmas.Bool.{cases_eq}
use Rattle.sheet.specs.Model.{Sheet}
use Rattle.sheet.specs.Valid.{Valid}
use Rattle.protocol.specs.Actions.{Way, sends, receives}
use Rattle.protocol.specs.Paths.{share}
use Rattle.protocol.specs.Sets.{here, Start, Successor, After}
use Rattle.protocol.proofs.Known.{action_known}
use Rattle.protocol.proofs.Closures.{Within, silent_closed, successor_within, after_push}
use Rattle.events.specs.declared.event.Event.{Event}
use Rattle.runs.specs.Events.{direction_of, own, label_of, labels}
use Rattle.runs.specs.Run.{Book, Admits, InOrder, Channels, Run}
use Rattle.runs.specs.Waiting.{waiting}
use Rattle.runs.specs.Steady.{AllSteady}
use Rattle.runs.specs.Monitor.{Monitor, InSet, Opened, Room, Passes, Changes, Reached, opened, passed}
use Rattle.runs.specs.Stands.{SetAfter, Stands}
use Rattle.runs.specs.Closing.{Finished}
use Rattle.runs.specs.Laws.{Agreement}
use Rattle.runs.proofs.Own.{own_push_same, own_push_other}
use Rattle.runs.proofs.Clocks.{beginning, timely, follows}
use Rattle.runs.proofs.Judging.{able_within, steady_all, Judged, Accepts, end_clock, More, accepts_push, Fewer, accepts_pop, same_clock, OnPath, path_accepts}
use Rattle.runs.proofs.Rebuild.{Goal, rebuild}
use Rattle.runs.proofs.Growth.{rising_push, rising_last, last_tick_push, all_last, Fit, waiting_step, in_order_step, fit_from, after_like, channels_now, channels_push, channels_none}

-- Room in the monitor's channels is room in what waits.
pub room_fit : (depth : ℕ) (es : List Event) (σ : Monitor) (e : Event) → σ.channel e.role e.partner ≡ waiting e.role e.partner es → σ.channel e.partner e.role ≡ waiting e.partner e.role es →
    (w : Way) → Room depth σ e w → Fit depth es e w
room_fit depth es σ e there back sends r = rw (← there) r
room_fit depth es σ e there back receives r = (r.0, r.1, sym back ∙ r.2, r.3)

pub fit_room : (depth : ℕ) (es : List Event) (σ : Monitor) (e : Event) → σ.channel e.role e.partner ≡ waiting e.role e.partner es → σ.channel e.partner e.role ≡ waiting e.partner e.role es →
    (w : Way) → Fit depth es e w → Room depth σ e w
fit_room depth es σ e there back sends r = rw there r
fit_room depth es σ e there back receives r = (r.0, r.1, back ∙ r.2, r.3)

-- where role m stands after its events es
record Standing (sh : Sheet) (book : Book) (o m : ℕ) (es : List Event) (c : ℕ) : Type 0 where
  accepts : Accepts sh book m (Start sh m) o es
  since : end_clock sh book m (Start sh m) o es accepts ≡ c

pub direction_small : (e : Event) (w : Way) → e.direction ≡ direction_of w → e.direction ≤ 1
direction_small e sends q = omega arith
direction_small e receives q = omega arith

-- the events of a run are judged good for every role, with the clock that the path says
pub on_path : (sh : Sheet) (book : Book) (o d : ℕ) (es : List Event) (r : Run sh book o d es) (m : ℕ) → OnPath sh book m (Start sh m) o (own m es) (share m r.path)
on_path sh book o d es r m =
    path_accepts sh book m r.path (Start sh m) o 0 (own m es) r.leads (here refl) (silent_closed sh m (λ s. s ≡ 0))
    (follows book o (own m es) (share m r.path) (r.shares m) (r.clocks m))

module _ (sh : Sheet) (book : Book) (valid : Valid sh) (steady : AllSteady sh) (o d : ℕ) where
  -- a path for events that are judged good, role by role, and come in order
  pub path_for : (Done : ℕ → Type 0) (es : List Event) → ((m : ℕ) → Accepts sh book m (Start sh m) o (own m es)) → Channels d es → ((m : ℕ) → Done m → Finished sh m (SetAfter sh m es)) →
      Goal sh book Done 0 (λ m. o) es
  path_for Done es accepts channels finished =
      rebuild sh book valid Done (length es) 0 (λ m. o) es (omega arith) (record {
        view = λ m. record { set = Start sh m; steady = steady_all sh valid steady m; closed = silent_closed sh m (λ s. s ≡ 0); inside = here refl; accepts = accepts m; finished = finished m };
        fifo = λ g b a c. (channels g b.0 b.1 a c).0;
      })

  module _ (es : List Event) (σ : Monitor) (k : Stands sh book o d es σ) (e : Event) where
    standing : (m : ℕ) → m < length sh.roles → Standing sh book o m (own m es) (σ.since m)
    standing m l = let on = on_path sh book o d es k.run m in record { accepts = on.accepts; since = on.clock ∙ sym (k.since m l) }

    ordered : (a b : ℕ) → InOrder d es a b
    ordered = channels_now d es k.run.channels

    module _ (t : Passes sh book d σ e) where
      fit : Fit d es e t.action.way
      fit = room_fit d es σ e (k.channel e.role e.partner t.role_known t.partner_known) (k.channel e.partner e.role t.partner_known t.role_known) t.action.way t.room

      judged : Judged sh book e.role (SetAfter sh e.role es) (end_clock sh book e.role (Start sh e.role) o (own e.role es) (standing e.role t.role_known).accepts) e
      judged = record {
        action = t.action;
        able = able_within sh e.role (InSet σ e.role) (SetAfter sh e.role es) (λ s x. (k.set e.role s t.role_known).0 x) t.action t.able;
        fits = t.fits;
        holds = rw (standing e.role t.role_known).since t.holds;
      }

      more : More sh book e.role (Start sh e.role) o (own e.role es) (standing e.role t.role_known).accepts e t.action.timing.reset
      unfolding judged
      more = accepts_push sh book e.role (Start sh e.role) o (own e.role es) (standing e.role t.role_known).accepts e judged

      standing_role : Standing sh book o e.role (own e.role (es ++ (e ∷ []))) (cond t.action.timing.reset e.tick (σ.since e.role))
      standing_role =
          rw (own_push_same e.role es e refl)
          (record { accepts = more.accepts; since = more.clock ∙ ap (λ (c : ℕ). cond t.action.timing.reset e.tick c) (standing e.role t.role_known).since })

      accepts_all : (m : ℕ) → Accepts sh book m (Start sh m) o (own m (es ++ (e ∷ [])))
      accepts_all m = go (cases_eq m e.role)
        where
          go : (m ≡ e.role) ⊎ (m ≡ e.role → ⊥) → Accepts sh book m (Start sh m) o (own m (es ++ (e ∷ [])))
          go (inl q) = rw q standing_role.accepts
          go (inr n) = rw (own_push_other m es e n) (on_path sh book o d es k.run m).accepts

      channels_on : Channels d (es ++ (e ∷ []))
      channels_on = channels_push d es e k.run.channels (in_order_step d es e t.action.way t.fits.direction ordered fit)

      goal : Goal sh book (λ m. ⊥) 0 (λ m. o) (es ++ (e ∷ []))
      goal = path_for (λ m. ⊥) (es ++ (e ∷ [])) accepts_all channels_on (λ m z. absurd z)

      -- a passed event makes a run
      pub passes_run : Run sh book o d (es ++ (e ∷ []))
      passes_run = record {
        ticks = rising_push o es e k.run.ticks (rw (← k.latest) t.in_time);
        channels = channels_on;
        known = All-push (λ x. x.role < length sh.roles) es e k.run.known t.role_known;
        path = goal.path;
        leads = goal.leads;
        shares = λ m. beginning book o (own m (es ++ (e ∷ []))) (share m goal.path) (goal.shares m);
        clocks = λ m. timely book o (own m (es ++ (e ∷ []))) (share m goal.path) (goal.shares m);
      }

      -- and the monitor stands after it
      module _ (τ : Monitor) (changes : Changes sh σ e t.action τ) where
        standing_next : (m : ℕ) → m < length sh.roles → Standing sh book o m (own m (es ++ (e ∷ []))) (τ.since m)
        standing_next m l = go (cases_eq m e.role)
          where
            go : (m ≡ e.role) ⊎ (m ≡ e.role → ⊥) → Standing sh book o m (own m (es ++ (e ∷ []))) (τ.since m)
            go (inl q) = rw (q, changes.since) standing_role
            go (inr n) = rw (own_push_other m es e n, changes.since_kept m l n) (standing m l)

        set-role : (s : ℕ) → Decides (τ.set e.role s) (SetAfter sh e.role (es ++ (e ∷ [])) s)
        set-role s =
            let X : ℕ → Type 0 = SetAfter sh e.role es in
            let p : SetAfter sh e.role (es ++ (e ∷ [])) ≡ Successor sh e.role X e.label =
            ap (λ (z : List Event). After sh e.role (Start sh e.role) (labels z)) (own_push_same e.role es e refl)
            ∙ ap (After sh e.role (Start sh e.role)) (map_push label_of (own e.role es) e)
            ∙ after_push sh e.role (Start sh e.role) (labels (own e.role es)) e.label in
            let there : Within (Successor sh e.role (InSet σ e.role) e.label) (Successor sh e.role X e.label) = successor_within sh e.role (InSet σ e.role) X (λ t' x. (k.set e.role t' t.role_known).0 x) e.label in
            let back : Within (Successor sh e.role X e.label) (Successor sh e.role (InSet σ e.role) e.label) = successor_within sh e.role X (InSet σ e.role) (λ t' x. (k.set e.role t' t.role_known).1 x) e.label in
            let both : Decides (τ.set e.role s) (Successor sh e.role X e.label s) = (λ q. there s ((changes.set s).0 q), λ x. (changes.set s).1 (back s x)) in
            subst (λ (Y : ℕ → Type 0). Decides (τ.set e.role s) (Y s)) (sym p) both

        pub passes_stands : Stands sh book o d (es ++ (e ∷ [])) τ
        passes_stands = record {
          run = passes_run;
          set = λ m s l. sets m s l (cases_eq m e.role);
          since = λ m l.
              let n = standing_next m l in
              let on = on_path sh book o d (es ++ (e ∷ [])) passes_run m in
              sym n.since ∙ same_clock sh book m valid (Start sh m) (steady_all sh valid steady m) (own m (es ++ (e ∷ []))) o o refl n.accepts on.accepts ∙ on.clock;
          channel = λ a b x y.
              changes.channel a b x y ∙ after_like σ.channel (λ a b. waiting a b es) e t.action.way a b (k.channel a b x y)
              ∙ sym (waiting_step d es e t.action.way t.fits.direction ordered a b);
          latest = changes.latest ∙ sym (last_tick_push o es e);
        }
          where
            sets : (m s : ℕ) → m < length sh.roles → (m ≡ e.role) ⊎ (m ≡ e.role → ⊥) → Decides (τ.set m s) (SetAfter sh m (es ++ (e ∷ [])) s)
            sets m s l (inl q) = rw q (set-role s)
            sets m s l (inr n) = rw (own_push_other m es e n, changes.set_kept m s l n) (k.set m s l)

    -- an event with which the events are a run passes
    pub run_passes : Run sh book o d (es ++ (e ∷ [])) → Passes sh book d σ e
    run_passes r =
        let l : e.role < length sh.roles = all_last (λ x. x.role < length sh.roles) es e r.known in
        let acc : Accepts sh book e.role (Start sh e.role) o (own e.role (es ++ (e ∷ []))) = (on_path sh book o d (es ++ (e ∷ [])) r e.role).accepts in
        let fewer : Fewer sh book e.role (Start sh e.role) o (own e.role es) e = accepts_pop sh book e.role (Start sh e.role) o (own e.role es) e (rw (own_push_same e.role es e refl) at acc) in
        let st = standing e.role l in
        let c : end_clock sh book e.role (Start sh e.role) o (own e.role es) fewer.accepts ≡ σ.since e.role =
        same_clock sh book e.role valid (Start sh e.role) (steady_all sh valid steady e.role) (own e.role es) o o refl fewer.accepts st.accepts ∙ st.since in
        go l fewer c r
      where
        go : e.role < length sh.roles → (fewer : Fewer sh book e.role (Start sh e.role) o (own e.role es) e) → end_clock sh book e.role (Start sh e.role) o (own e.role es) fewer.accepts ≡ σ.since e.role →
            Run sh book o d (es ++ (e ∷ [])) → Passes sh book d σ e
        go l fewer c r =
            let j = fewer.last in
            let step = j.able.acts.1 in
            let known = action_known sh valid e.role step.place step.has j.action step.acts in
            let partner_known : e.partner < length sh.roles = rw j.fits.partner known.1 in
            record {
              role_known = l;
              partner_known = partner_known;
              apart = rw j.fits.partner known.2;
              label_known = rw j.fits.label known.3;
              direction_known = direction_small e j.action.way j.fits.direction;
              in_time = rw k.latest (rising_last o es e r.ticks);
              action = j.action;
              able = able_within sh e.role (SetAfter sh e.role es) (InSet σ e.role) (λ s x. (k.set e.role s l).1 x) j.action j.able;
              fits = j.fits;
              room = fit_room d es σ e (k.channel e.role e.partner l partner_known) (k.channel e.partner e.role partner_known l) j.action.way
                  (fit_from d es e j.action.way j.fits.direction ordered (channels_now d (es ++ (e ∷ [])) r.channels));
              holds = subst (λ (z : ℕ). Admits book j.action.timing (e.tick - z)) c j.holds;
            }

    -- a monitor that stands passes an event exactly when with it the events are a run
    pub stands_agrees : Passes sh book d σ e ↔ Run sh book o d (es ++ (e ∷ []))
    stands_agrees = (passes_run, run_passes)

-- no events are a run
pub empty_run : (sh : Sheet) (book : Book) (o d : ℕ) → Run sh book o d []
empty_run sh book o d = record {
  ticks = tt;
  channels = channels_none d;
  known = tt;
  path = [];
  leads = tt;
  shares = λ m. tt;
  clocks = λ m. timely book o [] [] tt;
}

pub opened_stands : (sh : Sheet) (book : Book) (o d : ℕ) (σ : Monitor) → Opened sh o σ → Stands sh book o d [] σ
unfolding waiting
opened_stands sh book o d σ op = record {
  run = empty_run sh book o d;
  set = λ m s l. op.set m s l;
  since = op.since;
  channel = op.channel;
  latest = op.latest;
}

pub reached_stands : (sh : Sheet) (book : Book) → Valid sh → AllSteady sh → (o d : ℕ) (es : List Event) (σ : Monitor) → Reached sh book o d es σ → Stands sh book o d es σ
reached_stands sh book valid steady o d es σ (opened op) = opened_stands sh book o d σ op
reached_stands sh book valid steady o d es τ (passed {es = fs} {σ = σ} e r t c) = passes_stands sh book valid steady o d fs σ (reached_stands sh book valid steady o d fs σ r) e t τ c

pub agreement : (book : Book) → Agreement AllSteady book
agreement book sh valid steady o d es σ r e = stands_agrees sh book valid steady o d es σ (reached_stands sh book valid steady o d es σ r) e
