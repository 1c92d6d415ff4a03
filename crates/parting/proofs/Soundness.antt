-- A set passes the judging exactly when it is sound.
use Rattle.std.proofs.Common.{◌≡◌, ℕ, ◌<◌, Bool, true, false, not, ◌&&◌, ◌||◌, ◌⊎◌, List, [], ◌∷◌, map, None, Decides, Option, sym, refl, ap, ◌∙◌, subst, inl, inr}
use mathlib.Core.List.Memᴰ
use mathlib.Core.List.{Memᴰ}
use Rattle.std.proofs.lemmas.Bool.{cases_Bool, and_parts, and_from, or_cases, or_left, or_right, both_ways, cond-true, cond-false, not-true, not_from_false}
use Rattle.sheet.specs.Model.{Sheet}
use Rattle.sheet.specs.Valid.{Valid}
use Rattle.protocol.specs.Actions.{Action}
use Rattle.protocol.specs.Sets.{Step, Acts}
use Rattle.protocol.proofs.Known.{same_step}
use Rattle.protocol.specs.Sound.{OneSide, SameOffer, NoClash, Reaches, now, later, Told, Sound}
use Rattle.parting.specs.declared.act.Act.{Act}
use Rattle.parting.specs.declared.edge.Edge.{Edge}
use Rattle.parting.specs.declared.point.Point.{Point}
use Rattle.parting.specs.Masks.{has, In}
use Rattle.parting.specs.Spread.{Reach, start, along}
use Rattle.parting.specs.View.{places, acts, back_edge, acting_states_of, leading, action_of}
use Rattle.parting.specs.Judge.{in_set, sends, is_one_sided, unclashed, is_same_labels, is_same_offer, is_unclashed_list, is_led_from, is_told_if_acting, first_failing_point}
use Rattle.parting.proofs.Deciding.{way_sends, sends_way, way_receives, receives_way, same_way, Sided, Timed, Alike, Found, Pairs, one_from, one_to, unclashed_from, unclashed_to, same_labels_from, same_labels_to, below_from, below_to}
use Rattle.parting.proofs.Gathering.{gather_to, gathered, kept_from, kept_to}
use Rattle.parting.proofs.Spreading.{spread_decides}
use Rattle.parting.proofs.Viewing.{has_from, has_to, act_step, step_act}

module _ (sh : Sheet) (m : ℕ) where
  abbrev Back : List Edge
  Back = map back_edge (places sh)

  abbrev Acting : ℕ → Type 0
  Acting = In (acting_states_of (acts m (places sh)))

  reach_reaches : (s : ℕ) → Reach Back Acting s → Reaches sh m s
  reach_reaches s (start x) =
      let r = gathered (λ (a : Act). true) (λ a. a.state) (acts m (places sh)) s x in
      let st = act_step sh m r.0 r.1 in
      now (action_of r.0) (r.0.next, subst (λ k. Step sh m k (action_of r.0) r.0.next) r.3 st)
  reach_reaches s (along e i r q) =
      let f = Memᴰ.of_map back_edge (places sh) i in
      later f.0 (has_from sh f.0 f.1) (ap (λ (z : Edge). z.to) f.2 ∙ q) (subst (Reaches sh m) (ap (λ (z : Edge). z.from) (sym f.2)) (reach_reaches e.from r))

  reaches_reach : (s : ℕ) → Reaches sh m s → Reach Back Acting s
  reaches_reach s (now a x) =
      let r = step_act sh m s x.0 a x.1 in
      start (subst Acting r.2 (gather_to (λ (b : Act). true) (λ b. b.state) 0 (acts m (places sh)) r.0 r.1 refl))
  reaches_reach s (later p h e r) = along (back_edge p) (Memᴰ.map back_edge (has_to sh p h)) (reaches_reach p.branch.next r) e

  pub leading_decides : (s : ℕ) → Decides (has (leading m (places sh)) s) (Reaches sh m s)
  unfolding leading
  leading_decides s =
      let d = spread_decides Back (acting_states_of (acts m (places sh))) s in
      (λ q. reach_reaches s (d.0 q), λ x. d.1 (reaches_reach s x))

-- every state of the mask is a number below 64
abbrev pub Small : ℕ → Type 0
Small mask = (s : ℕ) → In mask s → s < 64

module _ (sh : Sheet) (valid : Valid sh) (m mask : ℕ) (small : Small mask) where
  abbrev xs : List Act
  xs = in_set mask (acts m (places sh))

  -- what the role does in the set
  pub act_acts : (x : Act) → Memᴰ x xs → In mask x.state × Step sh m x.state (action_of x) x.next
  act_acts x i = let r = kept_from (λ (a : Act). has mask a.state) (acts m (places sh)) x i in (r.1, act_step sh m x r.0)

  pub acts_act : (s t : ℕ) (a : Action) → In mask s → Step sh m s a t → (x : Act) × Memᴰ x xs × (x.state ≡ s) × (x.next ≡ t) × (action_of x ≡ a)
  acts_act s t a h st =
      let r = step_act sh m s t a st in
      (r.0, kept_to (λ (b : Act). has mask b.state) (acts m (places sh)) r.0 r.1 (ap (has mask) r.2 ∙ h), r.2, r.3, r.4)

  act_small : (x : Act) → Memᴰ x xs → x.state < 64
  act_small x i = small x.state (act_acts x i).0

  side_from : is_one_sided xs ≡ true → OneSide sh m (In mask)
  side_from e s t hs ht a b x y =
      let p = acts_act s x.0 a hs x.1 in
      let q = acts_act t y.0 b ht y.1 in
      let r = one_from xs e p.0 p.1 q.0 q.1 in
      (ap (λ (z : Action). z.way) (sym p.4) ∙ r.0 ∙ ap (λ (z : Action). z.way) q.4, ap (λ (z : Action). z.partner) (sym p.4) ∙ r.1 ∙ ap (λ (z : Action). z.partner) q.4)

  side_pairs : OneSide sh m (In mask) → Pairs xs Sided
  side_pairs one x i y j =
      let p = act_acts x i in
      let q = act_acts y j in
      one x.state y.state p.0 q.0 (action_of x) (action_of y) (x.next, p.1) (y.next, q.1)

  -- the first act says which side all are on
  first_side : (b : Bool) (h : Act) (rest : List Act) → xs ≡ h ∷ rest → OneSide sh m (In mask) → sends h.way ≡ b → (x : Act) → Memᴰ x xs → sends x.way ≡ b
  first_side b h rest e one s x i = same_way x.way h.way (side_pairs one x i h (subst (Memᴰ h) (sym e) (mathlib.Core.List.Memᴰ.head refl))).0 ∙ s

  offer_from : OneSide sh m (In mask) → is_same_offer xs ≡ true → SameOffer sh m (In mask)
  offer_from one e s t hs ht a b x y w = go xs refl e
    where
      go : (l : List Act) → xs ≡ l → is_same_offer l ≡ true → (c : Action) × Acts sh m t c × (c.label ≡ a.label) × (c.timing ≡ a.timing)
      go [] q o = let p = acts_act s x.0 a hs x.1 in let k : Memᴰ p.0 [] = subst (Memᴰ p.0) q p.1 in elim k [ ]
      go (h ∷ rest) q o =
          let p = acts_act s x.0 a hs x.1 in
          let r = acts_act t y.0 b ht y.1 in
          let sent : sends p.0.way ≡ true = way_sends p.0.way (ap (λ (z : Action). z.way) p.4 ∙ w) in
          let hm : Memᴰ h xs = subst (Memᴰ h) (sym q) (mathlib.Core.List.Memᴰ.head refl) in
          let hs' : sends h.way ≡ true = same_way h.way p.0.way (side_pairs one h hm p.0 p.1).0 ∙ sent in
          both p r hm (and_parts (is_same_labels h.state (h ∷ rest)) (unclashed (h ∷ rest)) (passes (or_cases (not (sends h.way)) _ o) hs'))
        where
          passes : (not (sends h.way) ≡ true) ⊎ ((is_same_labels h.state (h ∷ rest) && unclashed (h ∷ rest)) ≡ true) → sends h.way ≡ true → (is_same_labels h.state (h ∷ rest) && unclashed (h ∷ rest)) ≡ true
          passes (inl n) k = absurd (both_ways (sends h.way) (not-true (sends h.way) n) k)
          passes (inr k) _ = k

          both : (p : (z : Act) × Memᴰ z xs × (z.state ≡ s) × (z.next ≡ x.0) × (action_of z ≡ a)) → (r : (z : Act) × Memᴰ z xs × (z.state ≡ t) × (z.next ≡ y.0) × (action_of z ≡ b)) → Memᴰ h xs
              → (is_same_labels h.state (h ∷ rest) ≡ true) × (unclashed (h ∷ rest) ≡ true) → (c : Action) × Acts sh m t c × (c.label ≡ a.label) × (c.timing ≡ a.timing)
          both p r hm k =
              let f = same_labels_from h xs hm act_small (ap (is_same_labels h.state) q ∙ k.0) p.0 p.1 r.0 r.1 in
              let u = unclashed_from xs (ap unclashed q ∙ k.1) f.0 f.1 p.0 p.1 f.3 in
              let st = (act_acts f.0 f.1).1 in (
                action_of f.0,
                (f.0.next, subst (λ n. Step sh m n (action_of f.0) f.0.next) (f.2 ∙ r.2) st),
                f.3 ∙ ap (λ (z : Action). z.label) p.4,
                u ∙ ap (λ (z : Action). z.timing) p.4,
              )

  -- a label found in the state of another, with the same timing
  offer_pairs : SameOffer sh m (In mask) → (x : Act) → Memᴰ x xs → (y : Act) → Memᴰ y xs → sends x.way ≡ true → (z : Act) × Memᴰ z xs × (z.state ≡ y.state) × (z.label ≡ x.label) × Timed z x
  offer_pairs ok x i y j w =
      let p = act_acts x i in
      let q = act_acts y j in
      let c = ok x.state y.state p.0 q.0 (action_of x) (action_of y) (x.next, p.1) (y.next, q.1) (sends_way x.way w) in
      let z = acts_act y.state c.1.0 c.0 q.0 c.1.1 in
      (z.0, z.1, z.2, ap (λ (a : Action). a.label) z.4 ∙ c.2, ap (λ (a : Action). a.timing) z.4 ∙ c.3)

  offer_to : OneSide sh m (In mask) → SameOffer sh m (In mask) → is_same_offer xs ≡ true
  offer_to one ok = go xs refl
    where
      go : (l : List Act) → xs ≡ l → is_same_offer l ≡ true
      go [] q = refl
      go (h ∷ rest) q = side (cases_Bool (sends h.way))
        where
          hm : Memᴰ h xs
          hm = subst (Memᴰ h) (sym q) (mathlib.Core.List.Memᴰ.head refl)

          found : (w : sends h.way ≡ true) → Pairs xs (Found xs)
          found w x i y j = let z = offer_pairs ok x i y j (first_side true h rest q one w x i) in (z.0, z.1, z.2, z.3)

          alike : (w : sends h.way ≡ true) → Pairs xs Alike
          alike w x i y j l =
              let z = offer_pairs ok x i y j (first_side true h rest q one w x i) in
              let sz = (act_acts z.0 z.1).1 in
              let sy = (act_acts y j).1 in
              let e : action_of z.0 ≡ action_of y = same_step sh valid m y.state (action_of z.0) (action_of y) (z.0.next, subst (λ n. Step sh m n (action_of z.0) z.0.next) z.2 sz) (y.next, sy) (z.3 ∙ l) in
              sym z.4 ∙ ap (λ (a : Action). a.timing) e

          side : (sends h.way ≡ true) ⊎ (sends h.way ≡ false) → (not (sends h.way) || (is_same_labels h.state (h ∷ rest) && unclashed (h ∷ rest))) ≡ true
          side (inr n) = or_left _ _ (not_from_false (sends h.way) n)
          side (inl w) = or_right (not (sends h.way)) _ (and_from _ _ (ap (is_same_labels h.state) (sym q) ∙ same_labels_to h xs hm (found w)) (ap unclashed (sym q) ∙ unclashed_to xs (alike w)))

  clash_from : OneSide sh m (In mask) → is_unclashed_list xs ≡ true → NoClash sh m (In mask)
  clash_from one e s t hs ht a b x y w l = go xs refl e
    where
      go : (k : List Act) → xs ≡ k → is_unclashed_list k ≡ true → a.timing ≡ b.timing
      go [] q o = let p = acts_act s x.0 a hs x.1 in let k : Memᴰ p.0 [] = subst (Memᴰ p.0) q p.1 in elim k [ ]
      go (h ∷ rest) q o =
          let p = acts_act s x.0 a hs x.1 in
          let r = acts_act t y.0 b ht y.1 in
          let took : sends p.0.way ≡ false = way_receives p.0.way (ap (λ (z : Action). z.way) p.4 ∙ w) in
          let hm : Memᴰ h xs = subst (Memᴰ h) (sym q) (mathlib.Core.List.Memᴰ.head refl) in
          let hs' : sends h.way ≡ false = same_way h.way p.0.way (side_pairs one h hm p.0 p.1).0 ∙ took in
          let u = unclashed_from xs (ap unclashed q ∙ passes (or_cases (sends h.way) (unclashed (h ∷ rest)) o) hs') p.0 p.1 r.0 r.1 (ap (λ (z : Action). z.label) p.4 ∙ l ∙ ap (λ (z : Action). z.label) (sym r.4)) in
          ap (λ (z : Action). z.timing) (sym p.4) ∙ u ∙ ap (λ (z : Action). z.timing) r.4
        where
          passes : (sends h.way ≡ true) ⊎ (unclashed (h ∷ rest) ≡ true) → sends h.way ≡ false → unclashed (h ∷ rest) ≡ true
          passes (inl n) k = absurd (both_ways (sends h.way) k n)
          passes (inr k) _ = k

  clash_to : OneSide sh m (In mask) → NoClash sh m (In mask) → is_unclashed_list xs ≡ true
  clash_to one ok = go xs refl
    where
      go : (l : List Act) → xs ≡ l → is_unclashed_list l ≡ true
      go [] q = refl
      go (h ∷ rest) q = side (cases_Bool (sends h.way))
        where
          alike : (w : sends h.way ≡ false) → Pairs xs Alike
          alike w x i y j l =
              let p = act_acts x i in
              let r = act_acts y j in
              ok x.state y.state p.0 r.0 (action_of x) (action_of y) (x.next, p.1) (y.next, r.1) (receives_way x.way (first_side false h rest q one w x i)) l

          side : (sends h.way ≡ true) ⊎ (sends h.way ≡ false) → (sends h.way || unclashed (h ∷ rest)) ≡ true
          side (inl n) = or_left _ _ n
          side (inr w) = or_right (sends h.way) _ (ap unclashed (sym q) ∙ unclashed_to xs (alike w))

  led_from_lem : (s : ℕ) → is_led_from (leading m (places sh)) mask s ≡ true → In mask s → Reaches sh m s
  unfolding is_led_from
  led_from_lem s e h = go (or_cases (not (has mask s)) (has (leading m (places sh)) s) e)
    where
      go : (not (has mask s) ≡ true) ⊎ (has (leading m (places sh)) s ≡ true) → Reaches sh m s
      go (inl n) = absurd (both_ways (has mask s) (not-true (has mask s) n) h)
      go (inr l) = (leading_decides sh m s).0 l

  led_to : (s : ℕ) → (In mask s → Reaches sh m s) → is_led_from (leading m (places sh)) mask s ≡ true
  unfolding is_led_from
  led_to s r = go (cases_Bool (has mask s))
    where
      go : (has mask s ≡ true) ⊎ (has mask s ≡ false) → (not (has mask s) || has (leading m (places sh)) s) ≡ true
      go (inl h) = or_right (not (has mask s)) _ ((leading_decides sh m s).1 (r h))
      go (inr n) = or_left _ _ (not_from_false (has mask s) n)

  abbrev ToldIf : Type 0
  ToldIf = (s : ℕ) → In mask s → (a : Action) → Acts sh m s a → Told sh m (In mask)

  told_from : is_told_if_acting (leading m (places sh)) mask xs ≡ true → ToldIf
  told_from e s hs a x t ht = go xs refl e
    where
      go : (l : List Act) → xs ≡ l → is_told_if_acting (leading m (places sh)) mask l ≡ true → Reaches sh m t
      go [] q o = let p = acts_act s x.0 a hs x.1 in let k : Memᴰ p.0 [] = subst (Memᴰ p.0) q p.1 in elim k [ ]
      go (h ∷ rest) q o = led_from_lem t (below_from (is_led_from (leading m (places sh)) mask) 64 o t (small t ht)) ht

  told_to : ToldIf → is_told_if_acting (leading m (places sh)) mask xs ≡ true
  told_to ok = go xs refl
    where
      go : (l : List Act) → xs ≡ l → is_told_if_acting (leading m (places sh)) mask l ≡ true
      go [] q = refl
      go (h ∷ rest) q =
          let p = act_acts h (subst (Memᴰ h) (sym q) (mathlib.Core.List.Memᴰ.head refl)) in
          below_to (is_led_from (leading m (places sh)) mask) 64 (λ s _. led_to s (λ hs. ok h.state p.0 (action_of h) (h.next, p.1) s hs))

  abbrev failing : Option Point
  failing = first_failing_point (leading m (places sh)) mask xs

  pub judged_sound : failing ≡ None → Sound sh m (In mask)
  unfolding first_failing_point
  judged_sound e = first (cases_Bool (is_one_sided xs))
    where
      L : ℕ
      L = leading m (places sh)

      fourth : is_one_sided xs ≡ true → is_same_offer xs ≡ true → is_unclashed_list xs ≡ true → (is_told_if_acting L mask xs ≡ true) ⊎ (is_told_if_acting L mask xs ≡ false) → Sound sh m (In mask)
      fourth a b c (inl d) =
          let one = side_from a in
          record { one_side = one; same_offer = offer_from one b; no_clash = clash_from one c; told = told_from d }
      fourth a b c (inr d) = absurd (cc (sym (cond-true _ _ _ a ∙ cond-true _ _ _ b ∙ cond-true _ _ _ c ∙ cond-false _ _ _ d) ∙ e))

      third : is_one_sided xs ≡ true → is_same_offer xs ≡ true → (is_unclashed_list xs ≡ true) ⊎ (is_unclashed_list xs ≡ false) → Sound sh m (In mask)
      third a b (inl c) = fourth a b c (cases_Bool (is_told_if_acting L mask xs))
      third a b (inr c) = absurd (cc (sym (cond-true _ _ _ a ∙ cond-true _ _ _ b ∙ cond-false _ _ _ c) ∙ e))

      second : is_one_sided xs ≡ true → (is_same_offer xs ≡ true) ⊎ (is_same_offer xs ≡ false) → Sound sh m (In mask)
      second a (inl b) = third a b (cases_Bool (is_unclashed_list xs))
      second a (inr b) = absurd (cc (sym (cond-true _ _ _ a ∙ cond-false _ _ _ b) ∙ e))

      first : (is_one_sided xs ≡ true) ⊎ (is_one_sided xs ≡ false) → Sound sh m (In mask)
      first (inl a) = second a (cases_Bool (is_same_offer xs))
      first (inr a) = absurd (cc (sym (cond-false _ _ _ a) ∙ e))

  pub sound_judged : Sound sh m (In mask) → failing ≡ None
  unfolding first_failing_point
  sound_judged ok =
      let one = ok.one_side in
      cond-true _ _ _ (one_to xs (side_pairs one)) ∙ cond-true _ _ _ (offer_to one ok.same_offer) ∙ cond-true _ _ _ (clash_to one ok.no_clash) ∙ cond-true _ _ _ (told_to ok.told)
