-- The table of a role's sets is its local protocol.
use Rattle.std.proofs.Common.{◌≡◌, ℕ, ◌<◌, ◌≤◌, ◌⊎◌, List, [], ◌∷◌, length, get_or, Some, None, Decides, Option, sym, refl, ap, ◌∙◌, subst, inl, inr, arith}
use mathlib.Core.List.{Memᴰ}
use Rattle.std.proofs.lemmas.Bool.{cases_lt}
use Rattle.sheet.specs.Model.{Sheet}
use Rattle.sheet.specs.Valid.{Valid}
use Rattle.protocol.specs.Actions.{Action, Timing}
use Rattle.protocol.specs.Sets.{Step, Acts, Start, Led, Successor}
use Rattle.protocol.proofs.Known.{same_step}
use Rattle.parting.specs.declared.act.Act.{Act}
use Rattle.parting.specs.declared.act.Way.{Way}
use Rattle.parting.specs.declared.act.Way.TheVariants.{Sends, Receives}
use Rattle.parting.specs.declared.local.LocalSet.{LocalSet}
use Rattle.parting.specs.declared.local.Part.{Part}
use Rattle.parting.specs.Masks.{has, In}
use Rattle.parting.specs.View.{places, way_of, action_of}
use Rattle.parting.specs.Judge.{in_set, first_with}
use Rattle.parting.specs.Family.{View, view_of, successor, position}
use Rattle.parting.specs.Tables.{kind_by, local_kind, moved, move_under, Table}
use Rattle.parting.specs.Local.{Always, KindIs, set_of, Leads, MoveIs, LocalOf}
use Rattle.protocol.specs.Sound.{Sound}
use Rattle.parting.proofs.Acceptance.{Kept, Stands, position_stands, position_absent, label_below}
use Rattle.parting.proofs.Deciding.{first_act}
use Rattle.parting.proofs.Soundness.{Small, act_acts, acts_act}
use Rattle.parting.proofs.Successors.{start_decides, successor_decides, labelled_led, unlabelled}

module _ (sh : Sheet) (valid : Valid sh) (m : ℕ) where
  abbrev v : View
  v = view_of m (places sh)

  module _ (mask : ℕ) (small : Small mask) (ok : Sound sh m (In mask)) where
    abbrev xs : List Act
    xs = in_set mask v.acts

    -- the first act speaks for all
    always : (h : Act) → Memᴰ h xs → Always sh m (In mask) (way_of h.way) h.partner
    always h i =
        let r = act_acts sh valid m mask small h i in
        record {
          state = h.state;
          inside = r.0;
          action = action_of h;
          acts = (h.next, r.1);
          all = λ s x a act. ok.one_side s h.state x r.0 a (action_of h) act (h.next, r.1);
        }

    by_way : (w : Way) (partner : ℕ) → Always sh m (In mask) (way_of w) partner → KindIs sh m (In mask) (kind_by w partner)
    by_way Sends partner a = a
    by_way Receives partner a = a

    pub kind_is : KindIs sh m (In mask) (local_kind xs)
    kind_is = go xs refl
      where
        go : (l : List Act) → xs ≡ l → KindIs sh m (In mask) (local_kind l)
        go [] q = λ s x a act.
            let r = acts_act sh valid m mask small s act.0 a x act.1 in
            let k : Memᴰ r.0 [] = subst (Memᴰ r.0) q r.1 in
            elim k [ ]
        go (h ∷ rest) q = by_way h.way h.partner (always h (subst (Memᴰ h) (sym q) (mathlib.Core.List.Memᴰ.head refl)))

    -- acts with one label have one timing, by the second or the third point
    timings : (h : Act) → Memᴰ h xs → (s : ℕ) → In mask s → (a : Action) → Acts sh m s a → a.label ≡ h.label → a.timing ≡ (action_of h).timing
    timings h i s x a act l = by h.way refl
      where
        r : In mask h.state × Step sh m h.state (action_of h) h.next
        r = act_acts sh valid m mask small h i

        same : a.way ≡ (action_of h).way
        same = (ok.one_side s h.state x r.0 a (action_of h) act (h.next, r.1)).0

        by : (w : Way) → h.way ≡ w → a.timing ≡ (action_of h).timing
        by Sends q =
            let c = ok.same_offer h.state s r.0 x (action_of h) a (h.next, r.1) act (ap way_of q) in
            let e : c.0 ≡ a = same_step sh valid m s c.0 a c.1 act (c.2 ∙ sym l) in
            ap (λ (z : Action). z.timing) (sym e) ∙ c.3
        by Receives q = ok.no_clash s h.state x r.0 a (action_of h) act (h.next, r.1) (same ∙ ap way_of q) l

  module _ (F : List ℕ) (kept : Kept sh valid m (length F) F) (part : Part) (table : Table v F part) where
    count_is : part.count ≡ length F
    count_is = table.count

    states_are : (i : ℕ) → i < length F → (d : LocalSet) → set_of part i d ≡ get_or F i 0
    states_are i h d = (table.each i h d).states

    module _ (i : ℕ) (h : i < length F) (label : ℕ) where
      mask : ℕ
      mask = get_or F i 0

      move_is : (o : Option Act) → first_with label (in_set (get_or F i 0) v.acts) ≡ o → MoveIs sh m part (In (get_or F i 0)) label (moved o (position (successor v (get_or F i 0) label) F))
      move_is None e = unlabelled sh valid m (get_or F i 0) (kept.pool.good i h).small label e
      move_is (Some f) e = go (labelled_led sh valid m (get_or F i 0) (kept.pool.good i h).small label f e)
        where
          small : Small (get_or F i 0)
          small = (kept.pool.good i h).small

          next : ℕ
          next = position (successor v (get_or F i 0) label) F

          stands : label < length sh.labels → position (successor v (get_or F i 0) label) F < length F
          stands k = pick (kept.done i h label k)
            where
              pick : (first_with label (in_set (get_or F i 0) v.acts) ≡ None) ⊎ Stands (successor v (get_or F i 0) label) F → position (successor v (get_or F i 0) label) F < length F
              pick (inl n) = absurd cc
              pick (inr s) = under (cases_lt (position (successor v (get_or F i 0) label) F) (length F))
                where
                  under : (position (successor v (get_or F i 0) label) F < length F) ⊎ (length F ≤ position (successor v (get_or F i 0) label) F) → position (successor v (get_or F i 0) label) F < length F
                  under (inl l) = l
                  under (inr l) = absurd (position_absent (successor v (get_or F i 0) label) F l s)

          go : (t : ℕ) × Led sh m (In (get_or F i 0)) label t → Leads sh m part (In (get_or F i 0)) label (record { row = f.row; reset = f.reset; next = position (successor v (get_or F i 0) label) F })
          go d =
              let k : position (successor v (get_or F i 0) label) F < length F = stands (label_below sh valid m d.1.step d.1.labelled) in
              let r = first_act label (in_set (get_or F i 0) v.acts) f e in
              record {
                target = d.0;
                led = d.1;
                timing = λ s x a act l.
                    let q = timings (get_or F i 0) (kept.pool.good i h).small (kept.sound i h) f r.0 s x a act (l ∙ sym r.1) in
                    (ap (λ (z : Timing). z.row) q, ap (λ (z : Timing). z.reset) q);
                next = omega (arith, k, table.count);
                successor = λ d' s. subst (λ y. Decides (has y s) (Successor sh m (In (get_or F i 0)) label s)) (sym ((table.each _ k d').states ∙ position_stands (successor v (get_or F i 0) label) F k)) (successor_decides sh valid m (get_or F i 0) (kept.pool.good i h).small label s);
              }

    pub local_of : LocalOf sh m part
    unfolding move_under successor
    local_of = record {
      some = omega (arith, kept.some, table.count);
      few = omega (arith, kept.pool.few, table.count);
      start = λ d s. subst (λ y. Decides (has y s) (Start sh m s)) (sym (states_are 0 kept.some d ∙ kept.first)) (start_decides sh valid m s);
      apart = λ i j l h d e. kept.pool.apart i j l (omega (arith, table.count)) (sym (states_are i (omega (arith, table.count)) d) ∙ e ∙ states_are j (omega (arith, table.count)) d);
      kind = λ i h d.
          let k : i < length F = omega (arith, table.count) in
          let t = table.each i k d in
          subst (λ y. KindIs sh m (In y) (get_or part.sets i d).kind) (sym t.states) (subst (KindIs sh m (In (get_or F i 0))) (sym t.kind) (kind_is (get_or F i 0) (kept.pool.good i k).small (kept.sound i k)));
      move = λ i h d label l.
          let k : i < length F = omega (arith, table.count) in
          let t = table.each i k d in
          subst (λ y. MoveIs sh m part (In y) label (get_or (get_or part.sets i d).moves label None)) (sym t.states) (subst (MoveIs sh m part (In (get_or F i 0)) label) (sym (t.moves label l)) (move_is i k label _ refl));
    }
