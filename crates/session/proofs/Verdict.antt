-- What a session finds of an event is what the sheet says of it.
use Rattle.std.proofs.Common.{◌≡◌, ℕ, ◌-◌, ◌<◌, Bool, true, false, cond, ◌&&◌, ◌||◌, eqb, ltb, leb, ◌⊎◌, List, [], ◌∷◌, length, get_or, Some, None, Ok, Err, Option, Result, sym, refl, ap, ◌∙◌, subst, inl, inr, arith}
use Rattle.std.proofs.lemmas.Bool.{ltb-true, ltb-false, lt-ltb, leb-false, eqb-true, eq-eqb, eqb-false, and_parts, and_from, or_parts, or_cases, leb-true, both_ways, cond-true}
use Rattle.sheet.specs.Model.{Sheet}
use Rattle.protocol.specs.Actions.{Action}
use Rattle.protocol.specs.Paths.{share}
use Rattle.events.specs.declared.event.Event.{Event}
use Rattle.events.specs.declared.message.Message.{Message}
use Rattle.parting.specs.declared.accepted.Accepted.{Accepted}
use Rattle.parting.specs.declared.local.LocalKind.{LocalKind}
use Rattle.parting.specs.declared.local.LocalKind.TheVariants.{Finished, Sending, Receiving}
use Rattle.parting.specs.declared.local.LocalSet.{LocalSet}
use Rattle.parting.specs.declared.local.Move.{Move}
use Rattle.parting.specs.declared.local.Part.{Part}
use Rattle.parting.specs.Blank.{no_part}
use Rattle.parting.specs.Local.{Always, KindIs, Leads, MoveIs, LocalOf}
use Rattle.parting.specs.Masks.{In}
use Rattle.runs.specs.Events.{direction_of, own}
use Rattle.runs.specs.Run.{Book, Fits, timings, last_reset}
use Rattle.runs.specs.Waiting.{waiting}
use Rattle.runs.specs.Monitor.{Monitor, InSet, Able, Room, Passes}
use Rattle.runs.specs.Stands.{SetAfter}
use Rattle.runs.proofs.AnyPath.{any_path}
use Rattle.runs.proofs.Judging.{accepted_steady}
use Rattle.channels.specs.Waiting.{channel}
use Rattle.events.specs.declared.fault.SessionFault.{SessionFault}
use Rattle.events.specs.declared.fault.SessionFault.TheVariants.{Who, What, Back, Line, Full, Time}
use Rattle.session.specs.declared.inner.Inner.{Inner}
use Rattle.session.specs.declared.step.Direction.{Direction}
use Rattle.session.specs.declared.step.Direction.TheVariants.{Sends, Takes}
use Rattle.session.specs.declared.step.Step.{Step}
use Rattle.session.specs.Admitted.{RowAdmits, Timed}
use Rattle.session.specs.Delivered.{way_of}
use Rattle.session.specs.Kept.{no_set, record_of, set_at, monitor_of}
use Rattle.session.specs.Outcomes.{Known, Worded, InOrder, HasTurn, Waits, HasRoom, Refused}
use Rattle.session.specs.Prepared.{set_in_part, move_in_set, direction_in, steps, step_in, oldest_is, lined_by, lined, turned, unknown, unworded, prepared}
use Rattle.session.specs.Watches.{Watches}

module _ (sh : Sheet) (book : Book) (opening depth : ℕ) (es : List Event) (accepted : Accepted) (inner : Inner) (w : Watches sh book opening depth es accepted inner) where
  abbrev σ : Monitor
  σ = monitor_of accepted inner

  pub roles_are : accepted.counts.roles ≡ length sh.roles
  roles_are = ap (λ c. c.roles) w.sheet.parts.counts

  pub labels_are : accepted.counts.labels ≡ length sh.labels
  labels_are = ap (λ c. c.labels) w.sheet.parts.counts

  module _ (m : ℕ) (known : m < length sh.roles) where
    abbrev pub part : Part
    part = get_or accepted.parts.items m no_part

    abbrev pub number : ℕ
    number = (record_of inner m).set

    abbrev pub here : LocalSet
    here = set_at accepted m number

    pub local : LocalOf sh m part
    local = w.sheet.parts.local m known no_part

    pub number_small : number < 32
    number_small = let a = w.numbers m known in let b = local.few in omega (arith, a, b)

    -- the set is in the table
    pub set_here : set_in_part accepted m number ≡ Some here
    set_here =
        cond-true (ltb m accepted.counts.roles && ltb number 32) (Some here) None
        (and_from (ltb m accepted.counts.roles) (ltb number 32) (lt-ltb m accepted.counts.roles (let q = roles_are in omega (arith, q, known))) (lt-ltb number 32 number_small))

    pub kind_here : KindIs sh m (In here.states) here.kind
    kind_here = local.kind number (w.numbers m known) no_set

    pub move_here : (label : ℕ) → label < 32 → MoveIs sh m part (In here.states) label (get_or here.moves label None)
    move_here = local.move number (w.numbers m known) no_set

    -- the set in the table is the one after the role's events
    pub inside : (s : ℕ) → SetAfter sh m es s → In here.states s
    inside s x = (w.stands.set m s known).1 x

    pub outside : (s : ℕ) → In here.states s → SetAfter sh m es s
    outside s x = (w.stands.set m s known).0 x

  module _ (e : Event) where
    -- what is known of an event that is a step
    pub record Found (step : Step) : Type 0 where
      pub known : Known sh e
      pub action : Action
      pub able : Able sh e.role (InSet σ e.role) action
      pub fits : Fits e action
      pub way : action.way ≡ way_of step.direction
      pub leads : Leads sh e.role (part e.role known.role) (InSet σ e.role) e.label step.to

    abbrev Turned : Option Step → Type 0
    Turned None = HasTurn sh es e → ⊥
    Turned (Some step) = Found step

    module _ (k : Known sh e) where
      abbrev m : ℕ
      m = e.role

      abbrev X : ℕ → Type 0
      X = InSet σ e.role

      -- in a set in which the role goes one way with one partner
      acting : (d : Direction) (to : ℕ) → Always sh m X (way_of d) to → (o : Option Move) → MoveIs sh m (part m k.role) X e.label o →
          (b : Bool) → (eqb e.direction (direction_of (way_of d)) && eqb e.partner to) ≡ b → Turned (steps (cond b (Some d) None) o)
      acting d to all None move true q = λ t.
          move t.able.acts.0
          (record { state = t.able.state; inside = inside m k.role t.able.state t.able.inside; action = t.action; labelled = sym t.fits.label; step = t.able.acts.1 })
      acting d to all (Some mv) move true q =
          let led = move.led in
          let same = all.all led.state led.inside led.action (move.target, led.step) in
          let tests = and_parts (eqb e.direction (direction_of (way_of d))) (eqb e.partner to) q in
          record {
            known = k;
            action = led.action;
            able = record { state = led.state; inside = led.inside; acts = (move.target, led.step) };
            fits = record {
              direction = eqb-true e.direction (direction_of (way_of d)) tests.0 ∙ ap direction_of (sym same.0);
              partner = eqb-true e.partner to tests.1 ∙ sym same.1;
              label = sym led.labelled;
            };
            way = same.0;
            leads = move;
          }
      acting d to all o move false q = none o
        where
          none : (o : Option Move) → Turned (steps None o)
          none o t =
              let same = all.all t.able.state (inside m k.role t.able.state t.able.inside) t.action t.able.acts in
              both_ways (eqb e.direction (direction_of (way_of d)) && eqb e.partner to) q
              (and_from (eqb e.direction (direction_of (way_of d))) (eqb e.partner to)
              (eq-eqb e.direction (direction_of (way_of d)) (t.fits.direction ∙ ap direction_of same.0)) (eq-eqb e.partner to (t.fits.partner ∙ same.1)))

      by_kind : (kind : LocalKind) → KindIs sh m X kind → (o : Option Move) → MoveIs sh m (part m k.role) X e.label o → Turned (steps (direction_in kind e.direction e.partner) o)
      by_kind Finished fact o move = λ t. fact t.able.state (inside m k.role t.able.state t.able.inside) t.action t.able.acts
      by_kind (Sending to) fact o move = acting Sends to fact o move (eqb e.direction 0 && eqb e.partner to) refl
      by_kind (Receiving from) fact o move = acting Takes from fact o move (eqb e.direction 1 && eqb e.partner from) refl

      pub turn_here : Worded sh e → Turned (step_in (set_in_part accepted m (number m k.role)) e)
      turn_here t =
          let small : e.label < 32 = let a = t.label in let b = w.sheet.valid.label_count in omega (arith, a, b.1) in
          let moved : move_in_set (here m k.role) e.label ≡ get_or (here m k.role).moves e.label None = cond-true (ltb e.label 32) (get_or (here m k.role).moves e.label None) None (lt-ltb e.label 32 small) in
          subst (λ o. Turned (step_in o e)) (sym (set_here m k.role))
          (subst (λ o. Turned (steps (direction_in (here m k.role).kind e.direction e.partner) o)) (sym moved)
          (by_kind (here m k.role).kind (kind_here m k.role) (get_or (here m k.role).moves e.label None) (move_here m k.role e.label small)))

    -- a step whose channel has room, or the message
    pub record StepIs (step : Step) : Type 0 where
      pub found : Found step
      pub worded : Worded sh e
      pub in_order : InOrder opening es e
      pub room : Room depth σ e (way_of step.direction)

    abbrev pub Judgement : Result Step SessionFault → Type 0
    Judgement (Ok step) = StepIs step
    Judgement (Err fault) = Refused sh book opening depth es e fault

    -- the turn in the sheet's words
    pub has_turn : (step : Step) → Found step → HasTurn sh es e
    has_turn step f = record {
      action = f.action;
      able = record { state = f.able.state; inside = outside e.role f.known.role f.able.state f.able.inside; acts = f.able.acts };
      fits = f.fits;
    }

    pub direction_is : (step : Step) → Found step → e.direction ≡ direction_of (way_of step.direction)
    direction_is step f = f.fits.direction ∙ ap direction_of f.way

    pub waits_there : Known sh e → channel inner.channels e.partner e.role ≡ waiting e.partner e.role es
    waits_there k = w.stands.channel e.partner e.role k.partner k.role

    pub waits_here : Known sh e → channel inner.channels e.role e.partner ≡ waiting e.role e.partner es
    waits_here k = w.stands.channel e.role e.partner k.role k.partner

    -- room, or the message, in the events' words
    pub waits_room : (step : Step) → Found step → Room depth σ e (way_of step.direction) → Waits es e × HasRoom depth es e
    waits_room step f = go step.direction (direction_is step f)
      where
        go : (d : Direction) → e.direction ≡ direction_of (way_of d) → Room depth σ e (way_of d) → Waits es e × HasRoom depth es e
        go Sends q r = ((λ one. absurd (omega (arith, q, one))), λ none. let same = ap length (waits_here f.known) in omega (arith, same, r))
        go Takes q r = ((λ one. (r.0, r.1, sym (waits_there f.known) ∙ r.2, r.3)), λ none. absurd (omega (arith, q, none)))

    by_line : (step : Step) → Found step → Worded sh e → InOrder opening es e → Judgement (lined inner e step)
    by_line step f t o = go step.direction refl
      where
        ready : (d : Direction) → step.direction ≡ d → Room depth σ e (way_of d) → StepIs step
        ready d q r = record { found = f; worded = t; in_order = o; room = subst (λ x. Room depth σ e (way_of x)) (sym q) r }

        kept : inner.depth ≡ depth
        kept = w.depth_kept

        sent : step.direction ≡ Sends → (b : Bool) → ltb (length (channel inner.channels e.role e.partner)) inner.depth ≡ b → Judgement (cond b (Ok step) (Err (Full e.role e.label)))
        sent q true r = ready Sends q (let a = ltb-true (length (channel inner.channels e.role e.partner)) inner.depth r in omega (arith, a, kept))
        sent q false r =
            let zero : e.direction ≡ 0 = direction_is step f ∙ ap (λ x. direction_of (way_of x)) q in
            let full = ltb-false (length (channel inner.channels e.role e.partner)) inner.depth r in
            let same = ap length (waits_here f.known) in
            (refl, refl, f.known, t, o, has_turn step f, (λ one. absurd (omega (arith, zero, one))), λ room. let a = room zero in omega (arith, a, full, same, kept))

        taken : step.direction ≡ Takes → (xs : List Message) → channel inner.channels e.partner e.role ≡ xs → (b : Bool) → oldest_is xs e.label ≡ b → Judgement (cond b (Ok step) (Err (Line e.role e.label)))
        taken q [] is true r = absurd (both_ways false refl r)
        taken q (x ∷ xs) is true r = ready Takes q (x, xs, is, eqb-true x.label e.label r)
        taken q xs is false r =
            let one : e.direction ≡ 1 = direction_is step f ∙ ap (λ x. direction_of (way_of x)) q in
            (refl, refl, f.known, t, o, has_turn step f, λ waits. let y = waits one in absurd (both_ways (oldest_is xs e.label) r (ap (λ l. oldest_is l e.label) (sym is ∙ waits_there f.known ∙ y.2) ∙ eq-eqb y.0.label e.label y.3)))

        go : (d : Direction) → step.direction ≡ d → Judgement (lined_by inner e step d)
        go Sends q = sent q (ltb (length (channel inner.channels e.role e.partner)) inner.depth) refl
        go Takes q = taken q (channel inner.channels e.partner e.role) refl (oldest_is (channel inner.channels e.partner e.role) e.label) refl

    by_turn : (step : Option Step) → Turned step → Known sh e → Worded sh e → InOrder opening es e → Judgement (turned inner e step)
    by_turn None t k l o = (refl, refl, k, l, o, t)
    by_turn (Some step) f k l o = by_line step f l o

    by_tick : (b : Bool) → ltb e.tick inner.latest ≡ b → Known sh e → Worded sh e →
        Judgement (cond b (Err (Back e.role e.label)) (turned inner e (step_in (set_in_part accepted e.role (record_of inner e.role).set) e)))
    by_tick true q k l = (refl, refl, k, l, λ o. let a = ltb-true e.tick inner.latest q in let b = w.stands.latest in omega (arith, a, b, o))
    by_tick false q k l =
        by_turn (step_in (set_in_part accepted e.role (record_of inner e.role).set) e) (turn_here k l) k l
        (let a = ltb-false e.tick inner.latest q in let b = w.stands.latest in omega (arith, a, b))

    by_words : (b : Bool) → unworded accepted.counts e ≡ b → Known sh e →
        Judgement (cond b (Err (What e.role e.label))
        (cond (ltb e.tick inner.latest) (Err (Back e.role e.label)) (turned inner e (step_in (set_in_part accepted e.role (record_of inner e.role).set) e))))
    by_words true q k = (refl, refl, k, λ t. against (or_cases (leb accepted.counts.labels e.label) (ltb 1 e.direction) q) t)
      where
        against : (leb accepted.counts.labels e.label ≡ true) ⊎ (ltb 1 e.direction ≡ true) → Worded sh e → ⊥
        against (inl x) t = let a = leb-true accepted.counts.labels e.label x in let b = t.label in let c = labels_are in omega (arith, a, b, c)
        against (inr x) t = let a = ltb-true 1 e.direction x in let b = t.direction in omega (arith, a, b)
    by_words false q k =
        let no = or_parts (leb accepted.counts.labels e.label) (ltb 1 e.direction) q in
        by_tick (ltb e.tick inner.latest) refl k
        (record {
          label = let a = leb-false accepted.counts.labels e.label no.0 in let c = labels_are in omega (arith, a, c);
          direction = ltb-false 1 e.direction no.1;
        })

    by_roles : (b : Bool) → unknown accepted.counts e ≡ b →
        Judgement (cond b (Err (Who e.role e.label))
        (cond (unworded accepted.counts e) (Err (What e.role e.label))
        (cond (ltb e.tick inner.latest) (Err (Back e.role e.label)) (turned inner e (step_in (set_in_part accepted e.role (record_of inner e.role).set) e)))))
    by_roles true q = (refl, refl, λ k. against (or_cases (leb accepted.counts.roles e.role || leb accepted.counts.roles e.partner) (eqb e.role e.partner) q) k)
      where
        either : (leb accepted.counts.roles e.role ≡ true) ⊎ (leb accepted.counts.roles e.partner ≡ true) → Known sh e → ⊥
        either (inl x) k = let a = leb-true accepted.counts.roles e.role x in let b = k.role in let c = roles_are in omega (arith, a, b, c)
        either (inr x) k = let a = leb-true accepted.counts.roles e.partner x in let b = k.partner in let c = roles_are in omega (arith, a, b, c)

        against : ((leb accepted.counts.roles e.role || leb accepted.counts.roles e.partner) ≡ true) ⊎ (eqb e.role e.partner ≡ true) → Known sh e → ⊥
        against (inl x) k = either (or_cases (leb accepted.counts.roles e.role) (leb accepted.counts.roles e.partner) x) k
        against (inr x) k = k.apart (eqb-true e.role e.partner x)
    by_roles false q =
        let both = or_parts (leb accepted.counts.roles e.role || leb accepted.counts.roles e.partner) (eqb e.role e.partner) q in
        let each = or_parts (leb accepted.counts.roles e.role) (leb accepted.counts.roles e.partner) both.0 in
        by_words (unworded accepted.counts e) refl
        (record {
          role = let a = leb-false accepted.counts.roles e.role each.0 in let c = roles_are in omega (arith, a, c);
          partner = let a = leb-false accepted.counts.roles e.partner each.1 in let c = roles_are in omega (arith, a, c);
          apart = eqb-false e.role e.partner both.1;
        })

    pub judged : Judgement (prepared accepted inner e)
    judged = by_roles (unknown accepted.counts e) refl

    -- where the row does not hold, the event is late or early on every path
    pub not_in_row : (step : Step) → StepIs step → (Timed book inner e step → ⊥) → Refused sh book opening depth es e (Time e.role e.label)
    not_in_row step s untimely =
        let f = s.found in
        let k = f.known in
        let rooms = waits_room step f s.room in (
          refl,
          refl,
          k,
          s.worded,
          s.in_order,
          has_turn step f,
          rooms.0,
          rooms.1,
          λ r.
              let agree = any_path book sh w.sheet.valid (accepted_steady sh w.sheet.parted) opening depth es w.stands.run r.path r.leads e.role r.begins in
              let a = r.turn.action in
              let x = r.turn.able in
              let row = (f.leads.timing x.state (inside e.role k.role x.state x.inside) a x.acts (sym r.turn.fits.label)).0 in
              let since : last_reset opening (own e.role es) (timings (share e.role r.path)) ≡ (record_of inner e.role).since = agree.same_reset ∙ sym (w.stands.since e.role k.role) in
              untimely (subst (λ t. RowAdmits book step.to.row (e.tick - t)) since (subst (λ n. RowAdmits book n (e.tick - last_reset opening (own e.role es) (timings (share e.role r.path)))) row r.holds)),
        )

    -- a step whose row holds passes
    abbrev pub step_passes : (step : Step) → StepIs step → Timed book inner e step → Passes sh book depth σ e
    step_passes step s timed =
        let f = s.found in
        let row = (f.leads.timing f.able.state f.able.inside f.action f.able.acts (sym f.fits.label)).0 in
        record {
          role_known = f.known.role;
          partner_known = f.known.partner;
          apart = f.known.apart;
          label_known = s.worded.label;
          direction_known = s.worded.direction;
          in_time = let a = s.in_order in let b = w.stands.latest in omega (arith, a, b);
          action = f.action;
          able = f.able;
          fits = f.fits;
          room = subst (λ x. Room depth σ e x) (sym f.way) s.room;
          holds = subst (λ n. RowAdmits book n (e.tick - (record_of inner e.role).since)) (sym row) timed;
        }
