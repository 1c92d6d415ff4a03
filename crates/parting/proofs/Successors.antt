-- The computed sets are the sets: the start, and the successor under a label.
use Rattle.std.proofs.Common.{◌≡◌, ℕ, ◌<◌, true, eqb, ◌⊎◌, List, [], ◌∷◌, ◌++◌, Some, None, Decides, sym, ap, ◌∙◌, subst, inl, inr, arith}
use Rattle.std.proofs.lemmas.Bool.{eq-eqb, eqb-true, or_cases, or_left, false≢true}
use Rattle.sheet.specs.Model.{Sheet}
use Rattle.sheet.specs.Valid.{Valid}
use Rattle.protocol.specs.Places.{Place, Has}
use Rattle.protocol.specs.Actions.{Action}
use Rattle.protocol.specs.Sets.{Silent, here, on, Step, Start, Led, Successor, After, Followed}
use Rattle.protocol.proofs.Closures.{silent_within, led_within, successor_within, after_push, followed_push}
use Rattle.protocol.proofs.Known.{next_known}
use Rattle.parting.specs.declared.act.Act.{Act}
use Rattle.parting.specs.Masks.{has, add, In}
use Rattle.parting.specs.Spread.{spread}
use Rattle.parting.specs.View.{places, action_of}
use Rattle.parting.specs.Judge.{in_set, first_with}
use Rattle.parting.specs.Family.{View, view_of, ends, start_set, successor}
use Rattle.parting.proofs.Bits.{has_add, has_none}
use Rattle.parting.proofs.Deciding.{first_found, first_act}
use Rattle.parting.proofs.Gathering.{gather_to, gathered}
use Rattle.parting.proofs.Soundness.{Small, act_acts, acts_act}
use Rattle.parting.proofs.Viewing.{silent_decides}

zero_only : (s : ℕ) → In (add 0 0) s → s ≡ 0
zero_only s h = go (or_cases (eqb s 0) (has 0 s) (sym (has_add 0 0 s) ∙ h))
  where
    go : (eqb s 0 ≡ true) ⊎ (has 0 s ≡ true) → s ≡ 0
    go (inl q) = eqb-true s 0 q
    go (inr q) = absurd (false≢true (sym (has_none s) ∙ q))

zero_in : (s : ℕ) → s ≡ 0 → In (add 0 0) s
zero_in s q = has_add 0 0 s ∙ or_left (eqb s 0) (has 0 s) (eq-eqb s 0 q)

module _ (sh : Sheet) (valid : Valid sh) (m : ℕ) where
  abbrev v : View
  v = view_of m (places sh)

  next_small : (p : Place) → Has sh p → p.branch.next < 64
  next_small p h = omega (arith, next_known sh valid p h, valid.state_count.1)

  silent_small : (X : ℕ → Type 0) → ((s : ℕ) → X s → s < 64) → (s : ℕ) → Silent sh m X s → s < 64
  silent_small X h s (here x) = h s x
  silent_small X h s (on p k x t q) = omega (arith, next_small p k, q)

  spread_small : (Y : ℕ) → Small Y → Small (spread v.silent Y)
  spread_small Y h s x = silent_small (In Y) h s ((silent_decides sh m Y s).0 x)

  pub start_decides : (s : ℕ) → Decides (has (start_set v) s) (Start sh m s)
  unfolding start_set
  start_decides s =
      let d = silent_decides sh m (add 0 0) s in
      (λ x. silent_within sh m (In (add 0 0)) (λ t. t ≡ 0) zero_only s (d.0 x), λ x. d.1 (silent_within sh m (λ t. t ≡ 0) (In (add 0 0)) zero_in s x))

  pub start_small : Small (start_set v)
  unfolding start_set
  start_small = spread_small (add 0 0) (λ s h. omega (arith, zero_only s h))

  module _ (mask : ℕ) (small : Small mask) (label : ℕ) where
    abbrev here_acts : List Act
    here_acts = in_set mask v.acts

    ends_led : (t : ℕ) → In (ends label here_acts) t → Led sh m (In mask) label t
    ends_led t h =
        let r = gathered (λ (a : Act). eqb a.label label) (λ a. a.next) here_acts t h in
        let k = act_acts sh valid m mask small r.0 r.1 in
        record { state = r.0.state; inside = k.0; action = action_of r.0; labelled = eqb-true r.0.label label r.2; step = subst (λ u. Step sh m r.0.state (action_of r.0) u) r.3 k.1 }

    led_ends : (t : ℕ) → Led sh m (In mask) label t → In (ends label here_acts) t
    led_ends t d =
        let r = acts_act sh valid m mask small d.state t d.action d.inside d.step in
        let l : r.0.label ≡ label = ap (λ (a : Action). a.label) r.4 ∙ d.labelled in
        subst (In (ends label here_acts)) r.3 (gather_to (λ (a : Act). eqb a.label label) (λ a. a.next) 0 here_acts r.0 r.1 (eq-eqb r.0.label label l))

    pub successor_decides : (s : ℕ) → Decides (has (successor v mask label) s) (Successor sh m (In mask) label s)
    unfolding successor
    successor_decides s =
        let d = silent_decides sh m (ends label here_acts) s in
        (λ x. silent_within sh m (In (ends label here_acts)) (Led sh m (In mask) label) ends_led s (d.0 x), λ x. d.1 (silent_within sh m (Led sh m (In mask) label) (In (ends label here_acts)) led_ends s x))

    pub successor_small : Small (successor v mask label)
    unfolding successor
    successor_small = spread_small (ends label here_acts) (λ s h.
        let d = ends_led s h in
        omega (arith, next_small d.step.place d.step.has, d.step.leads))

    -- the role has an act with the label exactly when the label leads somewhere
    pub labelled_led : (f : Act) → first_with label here_acts ≡ Some f → (t : ℕ) × Led sh m (In mask) label t
    labelled_led f e =
        let r = first_act label here_acts f e in
        let k = act_acts sh valid m mask small f r.0 in
        (f.next, record { state = f.state; inside = k.0; action = action_of f; labelled = r.1; step = k.1 })

    pub unlabelled : first_with label here_acts ≡ None → (t : ℕ) → Led sh m (In mask) label t → ⊥
    unlabelled e t d =
        let r = acts_act sh valid m mask small d.state t d.action d.inside d.step in
        let f = first_found label here_acts r.0 r.1 (ap (λ (a : Action). a.label) r.4 ∙ d.labelled) in
        cc (f.1)

  -- a mask is the set after some labels that can be followed
  pub record Reached (mask : ℕ) : Type 0 where
    pub labels : List ℕ
    pub followed : Followed sh m (Start sh m) labels
    pub is : (s : ℕ) → Decides (has mask s) (After sh m (Start sh m) labels s)

  pub start_reached : Reached (start_set v)
  start_reached = record { labels = []; followed = tt; is = start_decides }

  pub successor_reached : (mask : ℕ) → Small mask → (label : ℕ) → (f : Act) → first_with label (in_set mask v.acts) ≡ Some f → Reached mask → Reached (successor v mask label)
  successor_reached mask small label f e r =
      let X : ℕ → Type 0 = After sh m (Start sh m) r.labels in
      let d = labelled_led mask small label f e in
      let more = after_push sh m (Start sh m) r.labels label in
      record {
        labels = r.labels ++ label ∷ [];
        followed = followed_push sh m (Start sh m) r.labels label d.0 r.followed (led_within sh m (In mask) X (λ s x. (r.is s).0 x) label d.0 d.1);
        is = λ s.
            let k = successor_decides mask small label s in (
              λ x. subst (λ (Z : ℕ → Type 0). Z s) (sym more) (successor_within sh m (In mask) X (λ t y. (r.is t).0 y) label s (k.0 x)),
              λ x. k.1 (successor_within sh m X (In mask) (λ t y. (r.is t).1 y) label s (subst (λ (Z : ℕ → Type 0). Z s) more x)),
            );
      }
