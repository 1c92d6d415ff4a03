-- From judged events to a path: the path is built place by place, from the first state on.
use Rattle.std.proofs.Common.{◌≡◌, ℕ, zero, suc, ◌-◌, ◌≤◌, cond, eqb, ◌≢◌, ◌⊎◌, List, [], ◌∷◌, ◌++◌, length, sym, refl, ap, ◌∙◌, subst, inl, inr, append-nil, arith}
use Rattle.std.proofs.lemmas.Bool.{cond-true, cond-false, eq-eqb, ne_eqb}
use Rattle.sheet.specs.Model.{Sheet}
use Rattle.sheet.specs.Valid.{Valid}
use Rattle.protocol.specs.Places.{Place, Has}
use Rattle.protocol.specs.Actions.{Way, sends, receives, Action, sending, receiving, turn}
use Rattle.protocol.specs.Paths.{PathFrom, end_of, share}
use Rattle.protocol.specs.Sets.{here, Acts, Led, Successor, After}
use Rattle.protocol.specs.Sound.{Reaches, now, later}
use Rattle.protocol.proofs.Turns.{turn_sender, turn_receiver, Side, as_sender, as_receiver, aside, side, Asked, asked, unasked, ask, asked_label}
use Rattle.protocol.proofs.Known.{same_exchange, apart}
use Rattle.protocol.proofs.Closures.{Closed, silent_closed}
use Rattle.events.specs.declared.event.Event.{Event}
use Rattle.runs.specs.Events.{direction_of, own, labels}
use Rattle.runs.specs.Run.{Book, Admits, Fits}
use Rattle.runs.specs.Monitor.{Able}
use Rattle.runs.specs.Closing.{Finished}
use Rattle.runs.proofs.Own.{list_cases, mine_same, along_yes, Without, without}
use Rattle.runs.proofs.Order.{Fifo, AlwaysFifo, labels_meet, always_one, always_two, first_sends}
use Rattle.runs.proofs.Clocks.{Follows}
use Rattle.runs.proofs.Judging.{SteadyFrom, steady_next, same_able, able_led, Judged, Accepts}

-- a function changed at one place
unfoldable put : ℕ → ℕ → (ℕ → ℕ) → ℕ → ℕ
put m x f k = cond (eqb k m) x (f k)

put_same : (m x : ℕ) (f : ℕ → ℕ) → put m x f m ≡ x
unfolding put
put_same m x f = cond-true (eqb m m) x (f m) (eq-eqb m m refl)

put_other : (m x : ℕ) (f : ℕ → ℕ) (k : ℕ) → k ≢ m → put m x f k ≡ f k
unfolding put
put_other m x f k n = cond-false (eqb k m) x (f k) (ne_eqb k m n)

sending_first : (e : Event) (w : Way) → e.direction ≡ direction_of w → Fifo (e ∷ []) → w ≡ sends
sending_first e sends d fifo = refl
sending_first e receives d fifo = absurd (first_sends e fifo d)

-- How role m sees state s, with its clock last reset at c and events r still to come. Where the role is known to be done
-- after them, it is finished in the set that they lead to.
pub record View (sh : Sheet) (book : Book) (m : ℕ) (Done : Type 0) (s c : ℕ) (r : List Event) : Type 1 where
  pub set : ℕ → Type 0
  pub steady : SteadyFrom sh m set
  pub closed : Closed sh m set
  pub inside : set s
  pub accepts : Accepts sh book m set c r
  pub finished : Done → Finished sh m (After sh m set (labels r))

-- what passing place q means to role m
pub record Advance (sh : Sheet) (book : Book) (m : ℕ) (Done : Type 0) (q : Place) (c : ℕ) (r : List Event) (c' : ℕ) (r' : List Event) : Type 1 where
  pub view : View sh book m Done q.branch.next c' r'
  pub follows : (actions : List Action) → Follows book c' r' actions → Follows book c r (turn m q ++ actions)
  pub whole : Done → (actions : List Action) → length r' ≡ length actions → length r ≡ length (turn m q ++ actions)

module _ (sh : Sheet) (book : Book) (valid : Valid sh) where
  -- a place of the state is an action of the set
  abbrev able_at : (m : ℕ) (X : ℕ → Type 0) (s : ℕ) (q : Place) → Has sh q → q.state ≡ s → X s → (a : Action) → turn m q ≡ a ∷ [] → Able sh m X a
  able_at m X s q hq qs x a t = record { state = s; inside = x; acts = (q.branch.next, record { place = q; has = hq; at = qs; acts = t; leads = refl }) }

  -- role m's next event goes the way, and to the partner, that any place of the state asks
  heads : (m : ℕ) (Done : Type 0) (s c : ℕ) (e : Event) (r : List Event) → View sh book m Done s c (e ∷ r) → (q : Place) → Has sh q → q.state ≡ s → (a : Action) → turn m q ≡ a ∷ [] →
      (e.direction ≡ direction_of a.way) × (e.partner ≡ a.partner)
  heads m Done s c e r v q hq qs a t =
      let j = v.accepts.0 in
      let i = able_at m v.set s q hq qs v.inside a t in
      let one = (v.steady [] tt).one_side j.able.state s j.able.inside v.inside j.action a j.able.acts i.acts in
      (j.fits.direction ∙ ap direction_of one.0, j.fits.partner ∙ one.1)

  -- role m's next event is what place q asks of it
  advance : (m : ℕ) (Done : Type 0) (s c : ℕ) (e : Event) (r : List Event) → View sh book m Done s c (e ∷ r) → (q : Place) → Has sh q → q.state ≡ s → (a : Action) → turn m q ≡ a ∷ [] → e.label ≡ a.label →
      Advance sh book m Done q c (e ∷ r) (cond a.timing.reset e.tick c) r
  advance m Done s c e r v q hq qs a t l =
      let X : ℕ → Type 0 = v.set in
      let j : Judged sh book m X c e = v.accepts.0 in
      let i : Able sh m X a = able_at m X s q hq qs v.inside a t in
      let same : j.action ≡ a = same_able sh valid m X (v.steady [] tt) j.action a j.able i (sym j.fits.label ∙ l) in
      let fit : Fits e a = subst (Fits e) same j.fits in
      let ad : Admits book a.timing (e.tick - c) = subst (λ (b : Action). Admits book b.timing (e.tick - c)) same j.holds in
      let led : Led sh m X e.label q.branch.next = able_led sh m X a i e.label l in
      record {
        view = record {
          set = Successor sh m X e.label;
          steady = steady_next sh m X v.steady e.label q.branch.next led;
          closed = silent_closed sh m (Led sh m X e.label);
          inside = here led;
          accepts = subst (λ (b : Action). Accepts sh book m (Successor sh m X e.label) (cond b.timing.reset e.tick c) r) same v.accepts.1;
          finished = v.finished;
        };
        follows = λ rest f. rw t (fit, ad, f);
        whole = λ d rest n. rw t (ap suc n);
      }

  -- role m has no event left, whatever q asks of it
  advance_done : (m : ℕ) (Done : Type 0) (s c : ℕ) → View sh book m Done s c [] → (q : Place) → Has sh q → q.state ≡ s → Advance sh book m Done q c [] c []
  advance_done m Done s c v q hq qs = go (ask m q)
    where
      go : Asked m q → Advance sh book m Done q c [] c []
      go (asked a t) =
          let X : ℕ → Type 0 = v.set in
          let i : Able sh m X a = able_at m X s q hq qs v.inside a t in
          let led : Led sh m X a.label q.branch.next = able_led sh m X a i a.label refl in
          let never : Done → ⊥ = λ d. v.finished d s v.inside a i.acts in
          record {
            view = record {
              set = Successor sh m X a.label;
              steady = steady_next sh m X v.steady a.label q.branch.next led;
              closed = silent_closed sh m (Led sh m X a.label);
              inside = here led;
              accepts = tt;
              finished = λ d. absurd (never d);
            };
            follows = λ rest f. tt;
            whole = λ d. absurd (never d);
          }
      go (unasked t) = record {
        view = record { set = v.set; steady = v.steady; closed = v.closed; inside = v.closed q hq (subst v.set (sym qs) v.inside) t; accepts = tt; finished = v.finished };
        follows = λ rest f. tt;
        whole = λ d rest n. rw t n;
      }

  -- q asks nothing of role m
  advance_silent : (m : ℕ) (Done : Type 0) (s c : ℕ) (r : List Event) → View sh book m Done s c r → (q : Place) → Has sh q → q.state ≡ s → turn m q ≡ [] → Advance sh book m Done q c r c r
  advance_silent m Done s c r v q hq qs t = record {
    view = record { set = v.set; steady = v.steady; closed = v.closed; inside = v.closed q hq (subst v.set (sym qs) v.inside) t; accepts = v.accepts; finished = v.finished };
    follows = λ rest f. rw t f;
    whole = λ d rest n. rw t n;
  }

-- A path from s that all the events follow. A role that is done has them as its whole share, and does not act where
-- the path ends.
pub record Goal (sh : Sheet) (book : Book) (Done : ℕ → Type 0) (s : ℕ) (c : ℕ → ℕ) (es : List Event) : Type 0 where
  pub path : List Place
  pub leads : PathFrom sh s path
  pub shares : (m : ℕ) → Follows book (c m) (own m es) (share m path)
  pub whole : (m : ℕ) → Done m → length (own m es) ≡ length (share m path)
  pub still : (m : ℕ) → Done m → (a : Action) → Acts sh m (end_of s path) a → ⊥

-- all roles see state s, and what they take was sent
pub record Ready (sh : Sheet) (book : Book) (Done : ℕ → Type 0) (s : ℕ) (c : ℕ → ℕ) (es : List Event) : Type 1 where
  pub view : (m : ℕ) → View sh book m (Done m) s (c m) (own m es)
  pub fifo : AlwaysFifo es

abbrev pub Rebuilds : Sheet → Book → (ℕ → Type 0) → ℕ → Type 1
Rebuilds sh book Done n = (s : ℕ) (c : ℕ → ℕ) (es : List Event) → length es ≤ n → Ready sh book Done s c es → Goal sh book Done s c es

module _ (sh : Sheet) (book : Book) (valid : Valid sh) (Done : ℕ → Type 0) where
  -- one place more in front of a path
  extend : (s : ℕ) (c : ℕ → ℕ) (es : List Event) (q : Place) → Has sh q → q.state ≡ s → (c' : ℕ → ℕ) (es' : List Event) →
      ((m : ℕ) → Advance sh book m (Done m) q (c m) (own m es) (c' m) (own m es')) → Goal sh book Done q.branch.next c' es' → Goal sh book Done s c es
  extend s c es q hq qs c' es' adv g = record {
    path = q ∷ g.path;
    leads = (hq, qs, g.leads);
    shares = λ m. (adv m).follows (share m g.path) (g.shares m);
    whole = λ m d. (adv m).whole d (share m g.path) (g.whole m d);
    still = g.still;
  }

  -- the sender has no event left, so the receiver has none
  receiver_idle : (s : ℕ) (c : ℕ → ℕ) (es : List Event) → Ready sh book Done s c es → (q : Place) → Has sh q → q.state ≡ s → own q.sender es ≡ [] → own q.receiver es ≡ []
  receiver_idle s c es ready q hq qs none = go (list_cases (own q.receiver es))
    where
      bad : (f : Event) (r : List Event) → own q.receiver es ≡ f ∷ r → ⊥
      bad f r o =
          let v : View sh book q.receiver (Done q.receiver) s (c q.receiver) (f ∷ r) = subst (λ (z : List Event). View sh book q.receiver (Done q.receiver) s (c q.receiver) z) o (ready.view q.receiver) in
          let t : turn q.receiver q ≡ receiving q ∷ [] = turn_receiver q.receiver q (λ h. apart sh valid q hq (sym h)) refl in
          let h = heads sh book valid q.receiver (Done q.receiver) s (c q.receiver) f r v q hq qs (receiving q) t in
          let b = ready.fifo es ([], sym (append-nil es)) q.sender q.receiver in
          let b' = rw (none, o, along_yes receives q.sender f h.0 h.1) at b in
          cc

      go : (own q.receiver es ≡ []) ⊎ ((x : Event) × (rest : List Event) × (own q.receiver es ≡ x ∷ rest)) → own q.receiver es ≡ []
      go (inl e) = e
      go (inr x) = absurd (bad x.0 x.1 x.2)

  -- place q, whose label the sender's next event has, is passed
  module _ (n : ℕ) (rec : Rebuilds sh book Done n) (s : ℕ) (c : ℕ → ℕ) (es : List Event) (small : length es ≤ suc n) (ready : Ready sh book Done s c es)
      (q : Place) (hq : Has sh q) (qs : q.state ≡ s) (e : Event) (r : List Event) (oA : own q.sender es ≡ e ∷ r) (lab : e.label ≡ q.branch.label) where
    sender_view : View sh book q.sender (Done q.sender) s (c q.sender) (e ∷ r)
    sender_view = subst (λ (z : List Event). View sh book q.sender (Done q.sender) s (c q.sender) z) oA (ready.view q.sender)

    abbrev sender_clock : ℕ
    sender_clock = cond (sending q).timing.reset e.tick (c q.sender)

    advance_sender : Advance sh book q.sender (Done q.sender) q (c q.sender) (e ∷ r) sender_clock r
    advance_sender = advance sh book valid q.sender (Done q.sender) s (c q.sender) e r sender_view q hq qs (sending q) (turn_sender q.sender q refl) lab

    sender_heads : (e.direction ≡ direction_of sends) × (e.partner ≡ q.receiver)
    sender_heads = heads sh book valid q.sender (Done q.sender) s (c q.sender) e r sender_view q hq qs (sending q) (turn_sender q.sender q refl)

    back_apart : q.receiver ≢ q.sender
    back_apart h = apart sh valid q hq (sym h)

    w : Without q.sender es e r
    w = without q.sender es e r oA

    abbrev c_a : ℕ → ℕ
    c_a = put q.sender sender_clock c

    receiver_turns : turn q.receiver q ≡ receiving q ∷ []
    receiver_turns = turn_receiver q.receiver q back_apart refl

    rest_receiver : own q.receiver w.rest ≡ own q.receiver es
    rest_receiver = sym (w.less.others q.receiver back_apart)

    -- the receiver has no event left
    consume_one : own q.receiver es ≡ [] → Goal sh book Done s c es
    consume_one none =
        extend s c es q hq qs c_a w.rest adv
        (rec q.branch.next c_a w.rest (omega (arith, w.shorter)) (record { view = λ m. (adv m).view; fifo = always_one q.sender q.receiver (apart sh valid q hq) es e r w sender_heads.0 sender_heads.1 ready.fifo none }))
      where
        at_sender : Advance sh book q.sender (Done q.sender) q (c q.sender) (own q.sender es) (c_a q.sender) (own q.sender w.rest)
        at_sender = rw (oA, w.own_rest, put_same q.sender sender_clock c) advance_sender

        at_receiver : Advance sh book q.receiver (Done q.receiver) q (c q.receiver) (own q.receiver es) (c_a q.receiver) (own q.receiver w.rest)
        at_receiver =
            rw (rest_receiver, none, put_other q.sender sender_clock c q.receiver back_apart)
            (advance_done sh book valid q.receiver (Done q.receiver) s (c q.receiver) (rw none at (ready.view q.receiver)) q hq qs)

        adv : (m : ℕ) → Advance sh book m (Done m) q (c m) (own m es) (c_a m) (own m w.rest)
        adv m = go (side m q)
          where
            go : Side m q → Advance sh book m (Done m) q (c m) (own m es) (c_a m) (own m w.rest)
            go (as_sender x t) = rw x at_sender
            go (as_receiver n x t) = rw x at_receiver
            go (aside n l t) = rw (← (w.less.others m n), put_other q.sender sender_clock c m n) (advance_silent sh book valid m (Done m) s (c m) (own m es) (ready.view m) q hq qs t)

    module _ (f : Event) (rB : List Event) (oB : own q.receiver es ≡ f ∷ rB) where
      receiver_view : View sh book q.receiver (Done q.receiver) s (c q.receiver) (f ∷ rB)
      receiver_view = subst (λ (z : List Event). View sh book q.receiver (Done q.receiver) s (c q.receiver) z) oB (ready.view q.receiver)

      receiver_heads : (f.direction ≡ direction_of receives) × (f.partner ≡ q.sender)
      receiver_heads = heads sh book valid q.receiver (Done q.receiver) s (c q.receiver) f rB receiver_view q hq qs (receiving q) receiver_turns

      u : Without q.receiver w.rest f rB
      u = without q.receiver w.rest f rB (rest_receiver ∙ oB)

      abbrev receiver_clock : ℕ
      receiver_clock = cond (receiving q).timing.reset f.tick (c q.receiver)

      abbrev c_b : ℕ → ℕ
      c_b = put q.receiver receiver_clock c_a

      labels_same : f.label ≡ q.branch.label
      labels_same =
          sym (labels_meet q.sender q.receiver (apart sh valid q hq) es w.rest e w.less sender_heads.0 sender_heads.1 (ready.fifo es ([], sym (append-nil es))) u.rest f u.less receiver_heads.0 receiver_heads.1) ∙ lab

      -- the receiver's next event takes what was sent
      consume_two : Goal sh book Done s c es
      consume_two =
          extend s c es q hq qs c_b u.rest adv
          (rec q.branch.next c_b u.rest (omega (arith, w.shorter, u.shorter)) (record { view = λ m. (adv m).view; fifo = always_two q.sender q.receiver (apart sh valid q hq) es e r w sender_heads.0 sender_heads.1 ready.fifo f rB u receiver_heads.0 receiver_heads.1 }))
        where
          at_sender : Advance sh book q.sender (Done q.sender) q (c q.sender) (own q.sender es) (c_b q.sender) (own q.sender u.rest)
          at_sender =
              rw (← (u.less.others q.sender (apart sh valid q hq)), oA, w.own_rest, put_other q.receiver receiver_clock c_a q.sender (apart sh valid q hq), put_same q.sender sender_clock c)
              advance_sender

          at_receiver : Advance sh book q.receiver (Done q.receiver) q (c q.receiver) (own q.receiver es) (c_b q.receiver) (own q.receiver u.rest)
          at_receiver =
              rw (oB, u.own_rest, put_same q.receiver receiver_clock c_a)
              (advance sh book valid q.receiver (Done q.receiver) s (c q.receiver) f rB receiver_view q hq qs (receiving q) receiver_turns labels_same)

          adv : (m : ℕ) → Advance sh book m (Done m) q (c m) (own m es) (c_b m) (own m u.rest)
          adv m = go (side m q)
            where
              go : Side m q → Advance sh book m (Done m) q (c m) (own m es) (c_b m) (own m u.rest)
              go (as_sender x t) = rw x at_sender
              go (as_receiver n x t) = rw x at_receiver
              go (aside n l t) =
                  rw (← (u.less.others m l), ← (w.less.others m n), put_other q.receiver receiver_clock c_a m l, put_other q.sender sender_clock c m n)
                  (advance_silent sh book valid m (Done m) s (c m) (own m es) (ready.view m) q hq qs t)

    consume_at : Goal sh book Done s c es
    consume_at = go (list_cases (own q.receiver es))
      where
        go : (own q.receiver es ≡ []) ⊎ ((x : Event) × (rest : List Event) × (own q.receiver es ≡ x ∷ rest)) → Goal sh book Done s c es
        go (inl none) = consume_one none
        go (inr x) = consume_two x.0 x.1 x.2

  -- the sender of the state has an event left: it sends a label of the state
  consume : (n : ℕ) → Rebuilds sh book Done n → (s : ℕ) (c : ℕ → ℕ) (es : List Event) → length es ≤ suc n → Ready sh book Done s c es →
      (p : Place) → Has sh p → p.state ≡ s → (e : Event) (r : List Event) → own p.sender es ≡ e ∷ r → Goal sh book Done s c es
  consume n rec s c es small ready p hp ps e r oA =
      let v : View sh book p.sender (Done p.sender) s (c p.sender) (e ∷ r) = subst (λ (z : List Event). View sh book p.sender (Done p.sender) s (c p.sender) z) oA (ready.view p.sender) in
      let j = v.accepts.0 in
      let ok = v.steady [] tt in
      let i = able_at sh book valid p.sender v.set s p hp ps v.inside (sending p) (turn_sender p.sender p refl) in
      let one = ok.one_side j.able.state s j.able.inside v.inside j.action (sending p) j.able.acts i.acts in
      let o = ok.same_offer j.able.state s j.able.inside v.inside j.action (sending p) j.able.acts i.acts one.0 in
      let q : Place = o.1.1.place in
      let same = same_exchange sh q p o.1.1.has hp (o.1.1.at ∙ sym ps) in
      let lab : e.label ≡ q.branch.label = j.fits.label ∙ sym o.2 ∙ asked_label p.sender q o.0 o.1.1.acts in
      consume_at n rec s c es small ready q o.1.1.has o.1.1.at e r (rw same.0 oA) lab

  -- place p is passed and nobody has an event there
  pass_by : (s : ℕ) (c : ℕ → ℕ) (es : List Event) → Ready sh book Done s c es → (p : Place) → Has sh p → p.state ≡ s → own p.sender es ≡ [] → own p.receiver es ≡ [] →
      (m : ℕ) → Advance sh book m (Done m) p (c m) (own m es) (c m) (own m es)
  pass_by s c es ready p hp ps x y m = go (side m p)
    where
      done : own m es ≡ [] → Advance sh book m (Done m) p (c m) (own m es) (c m) (own m es)
      done z = rw z (advance_done sh book valid m (Done m) s (c m) (rw z at (ready.view m)) p hp ps)

      go : Side m p → Advance sh book m (Done m) p (c m) (own m es) (c m) (own m es)
      go (as_sender q t) = done (rw q x)
      go (as_receiver n q t) = done (rw q y)
      go (aside n l t) = advance_silent sh book valid m (Done m) s (c m) (own m es) (ready.view m) p hp ps t

  -- on the way to a state in which role C, which has an event left, acts
  walk : (n : ℕ) → Rebuilds sh book Done n → (c : ℕ → ℕ) (es : List Event) → length es ≤ suc n → (C : ℕ) (e : Event) (r : List Event) → own C es ≡ e ∷ r →
      (s : ℕ) → Reaches sh C s → Ready sh book Done s c es → Goal sh book Done s c es
  walk n rec c es small C e r oC s (now a i) ready = go (list_cases (own i.1.place.sender es))
    where
      stuck : own i.1.place.sender es ≡ [] → own i.1.place.receiver es ≡ [] → Side C i.1.place → ⊥
      stuck x y (as_sender q _) = cc
      stuck x y (as_receiver _ q _) = cc
      stuck x y (aside _ _ z) = cc

      go : (own i.1.place.sender es ≡ []) ⊎ ((x : Event) × (rest : List Event) × (own i.1.place.sender es ≡ x ∷ rest)) → Goal sh book Done s c es
      go (inl x) = absurd (stuck x (receiver_idle s c es ready i.1.place i.1.has i.1.at x) (side C i.1.place))
      go (inr x) = consume n rec s c es small ready i.1.place i.1.has i.1.at x.0 x.1 x.2
  walk n rec c es small C e r oC s (later p hp ps l) ready = go (λ z. walk n rec c es small C e r oC p.branch.next l z) (list_cases (own p.sender es))
    where
      go : (Ready sh book Done p.branch.next c es → Goal sh book Done p.branch.next c es) → (own p.sender es ≡ []) ⊎ ((x : Event) × (rest : List Event) × (own p.sender es ≡ x ∷ rest)) → Goal sh book Done s c es
      go on-from (inl x) =
          let adv = pass_by s c es ready p hp ps x (receiver_idle s c es ready p hp ps x) in
          extend s c es p hp ps c es adv (on-from (record { view = λ m. (adv m).view; fifo = ready.fifo }))
      go on-from (inr x) = consume n rec s c es small ready p hp ps x.0 x.1 x.2

  -- The first event of all sends, so its role's set is one in which the role sends, and the fourth point leads on.
  pub rebuild : (n : ℕ) → Rebuilds sh book Done n
  rebuild n s c [] small ready = record { path = []; leads = tt; shares = λ m. tt; whole = λ m d. refl; still = λ m d. (ready.view m).finished d s (ready.view m).inside }
  rebuild zero s c (e ∷ es) small ready = absurd (omega arith)
  rebuild (suc n) s c (e ∷ es) small ready =
      let o : own e.role (e ∷ es) ≡ e ∷ own e.role es = rw (mine_same e.role e refl) in
      let v : View sh book e.role (Done e.role) s (c e.role) (e ∷ own e.role es) = rw o at (ready.view e.role) in
      let j = v.accepts.0 in
      walk n (rebuild n) c (e ∷ es) small e.role e (own e.role es) o s
      ((v.steady [] tt).told j.able.state j.able.inside j.action j.able.acts (sending_first e j.action.way j.fits.direction (ready.fifo (e ∷ []) (es, refl))) s v.inside) ready
