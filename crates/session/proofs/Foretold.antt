-- When a role can act, by its set, is when some event of it passes.
use Rattle.std.proofs.Common.{◌≡◌, ℕ, ◌-◌, ◌<◌, ◌≤◌, ◌&&◌, ltb, ◌⊎◌, List, [], ◌∷◌, length, get_or, Some, None, Option, sym, refl, ap, ◌∙◌, subst, inl, inr, arith}
use Rattle.std.proofs.lemmas.Bool.{cases_lt, lt-ltb, le-ltb, and_from, cond-true, cond-false}
use Rattle.sheet.specs.Model.{Sheet}
use Rattle.sheet.specs.Valid.{Valid}
use Rattle.protocol.specs.Actions.{sends, receives, Action}
use Rattle.protocol.specs.Sets.{Acts}
use Rattle.protocol.proofs.Known.{action_known}
use Rattle.channels.specs.Waiting.{channel, first}
use Rattle.events.specs.declared.event.Event.{Event}
use Rattle.events.specs.declared.message.Message.{Message}
use Rattle.parting.specs.declared.accepted.Accepted.{Accepted}
use Rattle.parting.specs.declared.local.LocalKind.{LocalKind}
use Rattle.parting.specs.declared.local.LocalKind.TheVariants.{Finished, Sending, Receiving}
use Rattle.parting.specs.declared.local.LocalSet.{LocalSet}
use Rattle.parting.specs.declared.local.Move.{Move}
use Rattle.parting.specs.declared.local.Part.{Part}
use Rattle.parting.specs.Blank.{no_part}
use Rattle.parting.specs.Local.{KindIs, MoveIs, LocalOf}
use Rattle.parting.specs.Masks.{In}
use Rattle.runs.specs.Run.{Book, Admits}
use Rattle.runs.specs.Monitor.{Monitor, Able, Room}
use Rattle.runs.specs.Stands.{last_tick}
use Rattle.runs.specs.Laws.{Least, CouldPass, Could}
use Rattle.runs.proofs.Forecast.{CouldDo, as_event, could_by_action, since_latest}
use Rattle.runs.proofs.Foresee.{least_by, keeping}
use Rattle.runs.proofs.Judging.{accepted_steady}
use Rattle.session.specs.declared.inner.Inner.{Inner}
use Rattle.session.specs.Admitted.{RowAdmits}
use Rattle.session.specs.Chances.{MoveAt, TakeAt, KindAt, SetAt, ActsAt}
use Rattle.session.specs.Earliest.{SomeMove}
use Rattle.session.specs.Kept.{record_of, no_set, set_at, monitor_of}
use Rattle.session.specs.Prepared.{set_in_part, move_in_set}
use Rattle.session.specs.Watches.{Watches}
use Rattle.session.proofs.Leasts.{move_read}

none_some : (o : Option Move) (to : Move) → o ≡ None → o ≡ Some to → ⊥
none_some o to p q = let z : ◌≡◌ {A = ℕ} 0 1 = cc in omega arith

-- only labels below 32 have a move
move_below : (s : LocalSet) (label : ℕ) (to : Move) → move_in_set s label ≡ Some to → label < 32
move_below s label to is = go (cases_lt label 32)
  where
    go : (label < 32) ⊎ (32 ≤ label) → label < 32
    go (inl h) = h
    go (inr h) = absurd (none_some (move_in_set s label) to (cond-false (ltb label 32) (get_or s.moves label None) None (le-ltb label 32 h)) is)

-- where a set sends and there is room, the role can act when some move is admitted
pub sends_least : (book : Book) (inner : Inner) (m : ℕ) (s : LocalSet) (p : ℕ) (o : Option LocalSet) (low high : ℕ) (answer : Option ℕ) →
    Some s ≡ o → s.kind ≡ Sending p → length (channel inner.channels m p) < inner.depth →
    Least (SomeMove book s (record_of inner m).since 32) low high answer → Least (SetAt book inner m o) low high answer
sends_least book inner m s p o low high answer is kind room l =
    subst (λ (z : Option LocalSet). Least (SetAt book inner m z) low high answer) is
    (subst (λ (k : LocalKind). Least (KindAt book inner m s k) low high answer) (sym kind)
    (least_by (SomeMove book s (record_of inner m).since 32) (KindAt book inner m s (Sending p)) low high (λ u h x. (room, x)) (λ u h x. x.1) answer l))

module _ (sh : Sheet) (book : Book) (opening depth : ℕ) (es : List Event) (accepted : Accepted) (inner : Inner)
    (w : Watches sh book opening depth es accepted inner) (m : ℕ) (known : m < length sh.roles) where
  valid : Valid sh
  valid = w.sheet.valid

  abbrev number : ℕ
  number = (record_of inner m).set

  abbrev part : Part
  part = get_or accepted.parts.items m no_part

  abbrev here : LocalSet
  here = set_at accepted m number

  abbrev σ : Monitor
  σ = monitor_of accepted inner

  abbrev X : ℕ → Type 0
  X = In here.states

  local : LocalOf sh m part
  local = w.sheet.parts.local m known no_part

  set_read : set_in_part accepted m number ≡ Some here
  set_read =
      let r : m < accepted.counts.roles = rw w.sheet.parts.counts known in
      let i : number < 32 = omega (arith, w.numbers m known, local.few) in
      cond-true (ltb m accepted.counts.roles && ltb number 32) (Some here) None
      (and_from (ltb m accepted.counts.roles) (ltb number 32) (lt-ltb m accepted.counts.roles r) (lt-ltb number 32 i))

  kind_is : KindIs sh m X here.kind
  kind_is = local.kind number (w.numbers m known) no_set

  move_is : (label : ℕ) → label < 32 → MoveIs sh m part X label (get_or here.moves label None)
  move_is label h = local.move number (w.numbers m known) no_set label h

  label_below : (state : ℕ) (a : Action) → Acts sh m state a → a.label < 32
  label_below state a acts =
      let step = acts.1 in
      let k = action_known sh valid m step.place step.has a step.acts in
      omega (arith, k.3, valid.label_count.1)

  -- an action of the set has a move with its row
  record HasMove (a : Action) : Type 0 where
    to : Move
    is : move_in_set here a.label ≡ Some to
    row : a.timing.row ≡ to.row

  move_of_action : (state : ℕ) → X state → (a : Action) → Acts sh m state a → HasMove a
  move_of_action state inside a acts = go (get_or here.moves a.label None) (move_read here a.label below) (move_is a.label below)
    where
      below : a.label < 32
      below = label_below state a acts

      go : (o : Option Move) → move_in_set here a.label ≡ o → MoveIs sh m part X a.label o → HasMove a
      go None q is = absurd (is acts.0 (record { state = state; inside = inside; action = a; labelled = refl; step = acts.1 }))
      go (Some to) q is = record { to = to; is = q; row = (is.timing state inside a acts refl).0 }

  -- a move of the set has an action with its row
  record HasAction (label : ℕ) (to : Move) : Type 0 where
    action : Action
    able : Able sh m X action
    labelled : action.label ≡ label
    row : action.timing.row ≡ to.row

  make_action : (label : ℕ) (to : Move) → move_in_set here label ≡ Some to → HasAction label to
  make_action label to q = go (subst (MoveIs sh m part X label) (sym (move_read here label below) ∙ q) (move_is label below))
    where
      below : label < 32
      below = move_below here label to q

      go : MoveIs sh m part X label (Some to) → HasAction label to
      go is = let d = is.led in record {
        action = d.action;
        able = record { state = d.state; inside = d.inside; acts = (is.target, d.step) };
        labelled = d.labelled;
        row = (is.timing d.state d.inside d.action (is.target, d.step) d.labelled).0;
      }

  -- what the action's row admits, the move's does
  row_there : (a : Action) (to : Move) (v : ℕ) → a.timing.row ≡ to.row → Admits book a.timing v → RowAdmits book to.row v
  row_there a to v e h = subst (λ (r : ℕ). RowAdmits book r v) e h

  row_back : (a : Action) (to : Move) (v : ℕ) → a.timing.row ≡ to.row → RowAdmits book to.row v → Admits book a.timing v
  row_back a to v e h = subst (λ (r : ℕ). RowAdmits book r v) (sym e) h

  room_there : (a : Action) (t p : ℕ) → a.way ≡ sends → a.partner ≡ p → Room depth σ (as_event m a t) a.way → length (channel inner.channels m p) < inner.depth
  room_there a t p way partner room =
      let r : Room depth σ (as_event m a t) sends = subst (Room depth σ (as_event m a t)) way room in
      let q : length (channel inner.channels m p) < depth = subst (λ (n : ℕ). length (channel inner.channels m n) < depth) partner r in
      subst (λ (n : ℕ). length (channel inner.channels m p) < n) (sym w.depth_kept) q

  room_back : (a : Action) (t p : ℕ) → a.way ≡ sends → a.partner ≡ p → length (channel inner.channels m p) < inner.depth → Room depth σ (as_event m a t) a.way
  room_back a t p way partner room =
      let q : length (channel inner.channels m p) < depth = subst (λ (n : ℕ). length (channel inner.channels m p) < n) w.depth_kept room in
      let r : Room depth σ (as_event m a t) sends = subst (λ (n : ℕ). length (channel inner.channels m n) < depth) (sym partner) q in
      subst (Room depth σ (as_event m a t)) (sym way) r

  there : (t : ℕ) (k : LocalKind) → KindIs sh m X k → (a : Action) → CouldDo sh book depth σ m t a → KindAt book inner m here k t
  there t Finished is a c = is c.able.state c.able.inside a c.able.acts
  there t (Sending p) is a c =
      let all = is.all c.able.state c.able.inside a c.able.acts in
      let h = move_of_action c.able.state c.able.inside a c.able.acts in
      (room_there a t p all.0 all.1 c.room, (a.label, h.to, label_below c.able.state a c.able.acts, h.is, row_there a h.to (t - (record_of inner m).since) h.row c.holds))
  there t (Receiving p) is a c =
      let all = is.all c.able.state c.able.inside a c.able.acts in
      let h = move_of_action c.able.state c.able.inside a c.able.acts in
      let r : Room depth σ (as_event m a t) receives = subst (Room depth σ (as_event m a t)) all.0 c.room in
      let x : Message = r.0 in
      let line : channel inner.channels p m ≡ x ∷ r.1 = subst (λ (n : ℕ). channel inner.channels n m ≡ x ∷ r.1) all.1 r.2 in
      let move : move_in_set here x.label ≡ Some h.to = ap (move_in_set here) r.3 ∙ h.is in
      let admits : RowAdmits book h.to.row (t - (record_of inner m).since) = row_there a h.to (t - (record_of inner m).since) h.row c.holds in
      subst (λ (o : Option Message). TakeAt book here o (record_of inner m).since t) (sym (ap first line))
      (subst (λ (o : Option Move). MoveAt book o (record_of inner m).since t) (sym move) admits)

  does : (t label : ℕ) (to : Move) (h : HasAction label to) → σ.latest ≤ t → Room depth σ (as_event m h.action t) h.action.way →
      RowAdmits book to.row (t - (record_of inner m).since) → (a : Action) × CouldDo sh book depth σ m t a
  does t label to h late room admits =
      (h.action, record { able = h.able; room = room; holds = row_back h.action to (t - (record_of inner m).since) h.row admits; in_time = late })

  back : (t : ℕ) → σ.latest ≤ t → (k : LocalKind) → KindIs sh m X k → KindAt book inner m here k t → (a : Action) × CouldDo sh book depth σ m t a
  back t late Finished is k = absurd k
  back t late (Sending p) is k =
      let some = k.1 in
      let h = make_action some.0 some.1 some.3 in
      let all = is.all h.able.state h.able.inside h.action h.able.acts in
      does t some.0 some.1 h late (room_back h.action t p all.0 all.1 k.0) some.4
  back t late (Receiving p) is k = take (channel inner.channels p m) refl k
    where
      move : (x : Message) (rest : List Message) → channel inner.channels p m ≡ x ∷ rest → (o : Option Move) → move_in_set here x.label ≡ o → MoveAt book o (record_of inner m).since t → (a : Action) × CouldDo sh book depth σ m t a
      move x rest line None q k = absurd k
      move x rest line (Some to) q k =
          let h = make_action x.label to q in
          let all = is.all h.able.state h.able.inside h.action h.able.acts in
          let r : Room depth σ (as_event m h.action t) receives = (x, rest, subst (λ (n : ℕ). channel inner.channels n m ≡ x ∷ rest) (sym all.1) line, sym h.labelled) in
          does t x.label to h late (subst (Room depth σ (as_event m h.action t)) (sym all.0) r) k

      take : (xs : List Message) → channel inner.channels p m ≡ xs → TakeAt book here (first xs) (record_of inner m).since t → (a : Action) × CouldDo sh book depth σ m t a
      take [] line k = absurd k
      take (x ∷ rest) line k = move x rest line (move_in_set here x.label) refl k

  pub since_late : (record_of inner m).since ≤ inner.latest
  since_late = since_latest sh book opening depth es σ w.stands m known

  -- the least tick at which the role can act by its set is the least at which it makes a run
  pub foretold : (answer : Option ℕ) → Least (ActsAt book accepted inner m) inner.latest 4294967295 answer → Least (Could sh book opening depth es m) (last_tick opening es) 4294967295 answer
  foretold answer l =
      let passing : Least (CouldPass sh book depth σ m) inner.latest 4294967295 answer = least_by (ActsAt book accepted inner m) (CouldPass sh book depth σ m) inner.latest 4294967295 f g answer l in
      let runs = (((keeping book sh valid (accepted_steady sh w.sheet.parted) opening depth).foresees es σ w.stands m).least 4294967295 answer).0 passing in
      subst (λ (n : ℕ). Least (Could sh book opening depth es m) n 4294967295 answer) w.stands.latest runs
    where
      f : (u : ℕ) → inner.latest ≤ u → ActsAt book accepted inner m u → CouldPass sh book depth σ m u
      f u late x = (could_by_action sh book valid depth σ m u).1 (back u late here.kind kind_is (subst (λ (o : Option LocalSet). SetAt book inner m o u) set_read x))

      g : (u : ℕ) → inner.latest ≤ u → CouldPass sh book depth σ m u → ActsAt book accepted inner m u
      g u late x =
          let y = (could_by_action sh book valid depth σ m u).0 x in
          subst (λ (o : Option LocalSet). SetAt book inner m o u) (sym set_read) (there u here.kind kind_is y.0 y.1)
