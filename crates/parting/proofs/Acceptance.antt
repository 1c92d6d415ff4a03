-- A role has a part exactly when its sets are found without a fault.
use Rattle.std.proofs.Common.{◌≡◌, ℕ, zero, suc, ◌+◌, ◌<◌, ◌≤◌, Bool, true, false, cond, eqb, ltb, ◌⊎◌, List, [], ◌∷◌, ◌++◌, map, length, get_or, is_some, Some, None, Decides, Option, sym, refl, ap, ◌∙◌, subst, inl, inr, arith}
use Rattle.std.proofs.lemmas.List.{length-map, get_or-map, length_push, get_or_append_left, get_or_push}
use Rattle.std.proofs.lemmas.Bool.{cases_Bool, cases_eq, cases_lt, cond-true, cond-false, eqb-true, eqb-false, lt-ltb, le-ltb}
use Rattle.sheet.specs.Model.{Sheet}
use Rattle.sheet.specs.Valid.{Valid}
use Rattle.protocol.specs.Actions.{Action}
use Rattle.protocol.specs.Sets.{Step, Start, Led, Successor, After}
use Rattle.protocol.specs.Sound.{Sound}
use Rattle.protocol.specs.Accepted.{HasPart}
use Rattle.protocol.proofs.Closures.{sound_within}
use Rattle.protocol.proofs.Found.{Of, Is, found_part}
use Rattle.protocol.proofs.Known.{label_known}
use Rattle.protocol.proofs.Turns.{asked_label}
use Rattle.parting.specs.declared.act.Act.{Act}
use Rattle.parting.specs.declared.fault.PartFault.{PartFault}
use Rattle.parting.specs.declared.fault.PartFault.TheVariants.{Sets}
use Rattle.parting.specs.declared.point.Point.{Point}
use Rattle.parting.specs.Masks.{has, In}
use Rattle.parting.specs.Spread.{spread}
use Rattle.parting.specs.View.{places}
use Rattle.parting.specs.Judge.{in_set, first_with, first_failing_point}
use Rattle.parting.specs.Family.{View, view_of, ends, start_set, successor, position, entered, label_entered, followed, Found, sets, stopped, visited, explored, family_of, fault_of_point}
use Rattle.parting.proofs.Entering.{entered_known, entered_full, entered_new}
use Rattle.parting.proofs.Following.{followed_some, followed_none}
use Rattle.parting.proofs.Pigeons.{pigeons}
use Rattle.parting.proofs.Same.{decided_same}
use Rattle.parting.proofs.Soundness.{Small, judged_sound, sound_judged}
use Rattle.parting.proofs.Successors.{start_decides, start_small, successor_decides, successor_small, unlabelled, Reached, start_reached, successor_reached}

-- a set stands among those found
abbrev pub Stands : ℕ → List ℕ → Type 0
Stands mask found = (j : ℕ) × (j < length found) × (get_or found j 0 ≡ mask)

pub position_stands : (mask : ℕ) (found : List ℕ) → position mask found < length found → get_or found (position mask found) 0 ≡ mask
position_stands mask [] h = absurd (omega arith)
position_stands mask (x ∷ xs) h = go (λ k. position_stands mask xs k) (cases_Bool (eqb x mask))
  where
    go : (position mask xs < length xs → get_or xs (position mask xs) 0 ≡ mask) → (eqb x mask ≡ true) ⊎ (eqb x mask ≡ false) → get_or (x ∷ xs) (position mask (x ∷ xs)) 0 ≡ mask
    go rec (inl e) = ap (λ n. get_or (x ∷ xs) n 0) (cond-true (eqb x mask) 0 (suc (position mask xs)) e) ∙ eqb-true x mask e
    go rec (inr e) =
        let p : position mask (x ∷ xs) ≡ suc (position mask xs) = cond-false (eqb x mask) 0 (suc (position mask xs)) e in
        ap (λ n. get_or (x ∷ xs) n 0) p ∙ rec (omega (arith, p))

pub position_absent : (mask : ℕ) (found : List ℕ) → length found ≤ position mask found → Stands mask found → ⊥
position_absent mask [] h s = omega (arith, s.1)
position_absent mask (x ∷ xs) h s = go (λ k t. position_absent mask xs k t) (cases_Bool (eqb x mask)) s.0 s.1 s.2
  where
    go : (length xs ≤ position mask xs → Stands mask xs → ⊥) → (eqb x mask ≡ true) ⊎ (eqb x mask ≡ false) → (j : ℕ) → j < length (x ∷ xs) → get_or (x ∷ xs) j 0 ≡ mask → ⊥
    go rec (inl e) j l q = omega (arith, cond-true (eqb x mask) 0 (suc (position mask xs)) e)
    go rec (inr e) zero l q = eqb-false x mask e q
    go rec (inr e) (suc j) l q = rec (omega (arith, cond-false (eqb x mask) 0 (suc (position mask xs)) e)) (j, omega arith, q)

-- what was found stays where it is
pub record Grows (before after : List ℕ) : Type 0 where
  pub longer : length before ≤ length after
  pub same : (i : ℕ) → i < length before → get_or after i 0 ≡ get_or before i 0

grows_refl : (xs : List ℕ) → Grows xs xs
grows_refl xs = record { longer = omega arith; same = λ i h. refl }

grows_then : (xs ys zs : List ℕ) → Grows xs ys → Grows ys zs → Grows xs zs
grows_then xs ys zs a b = record { longer = omega (arith, a.longer, b.longer); same = λ i h. b.same i (omega (arith, a.longer)) ∙ a.same i h }

grows_push : (xs : List ℕ) (x : ℕ) → Grows xs (xs ++ x ∷ [])
grows_push xs x = record { longer = omega (arith, length_push xs x); same = λ i h. get_or_append_left xs (x ∷ []) 0 i h }

stands_grows : (mask : ℕ) (xs ys : List ℕ) → Grows xs ys → Stands mask xs → Stands mask ys
stands_grows mask xs ys g s = (s.0, omega (arith, g.longer, s.1), g.same s.0 s.1 ∙ s.2)

module _ (sh : Sheet) (valid : Valid sh) (m : ℕ) where
  abbrev v : View
  v = view_of m (places sh)

  -- a set that comes after some labels
  pub record Good (mask : ℕ) : Type 0 where
    pub small : Small mask
    pub reached : Reached sh valid m mask

  -- sets found: at most 32, no two the same
  pub record Pool (found : List ℕ) : Type 0 where
    pub few : length found ≤ 32
    pub good : (i : ℕ) → i < length found → Good (get_or found i 0)
    pub apart : (i j : ℕ) → i < j → j < length found → get_or found i 0 ≡ get_or found j 0 → ⊥

  pool_push : (found : List ℕ) (mask : ℕ) → Pool found → length found < 32 → Good mask → (Stands mask found → ⊥) → Pool (found ++ mask ∷ [])
  pool_push found mask p room g new = record {
    few = omega (arith, length_push found mask);
    good = λ i h. goods i (omega (arith, length_push found mask)) (cases_eq i (length found));
    apart = λ i j l h e. aparts i j l (omega (arith, length_push found mask)) e (cases_eq j (length found));
  }
    where
      goods : (i : ℕ) → i < suc (length found) → (i ≡ length found) ⊎ (i ≡ length found → ⊥) → Good (get_or (found ++ mask ∷ []) i 0)
      goods i h (inl q) = subst Good (sym (get_or_push found mask 0 i (sym q))) g
      goods i h (inr q) = subst Good (sym (get_or_append_left found (mask ∷ []) 0 i (omega arith))) (p.good i (omega arith))

      aparts : (i j : ℕ) → i < j → j < suc (length found) → get_or (found ++ mask ∷ []) i 0 ≡ get_or (found ++ mask ∷ []) j 0 → (j ≡ length found) ⊎ (j ≡ length found → ⊥) → ⊥
      aparts i j l h e (inl q) = new (i, omega arith, sym (get_or_append_left found (mask ∷ []) 0 i (omega arith)) ∙ e ∙ get_or_push found mask 0 j (sym q))
      aparts i j l h e (inr q) = p.apart i j l (omega arith) (sym (get_or_append_left found (mask ∷ []) 0 i (omega arith)) ∙ e ∙ get_or_append_left found (mask ∷ []) 0 j (omega arith))

  -- there is one set too many
  pub record Overfull : Type 0 where
    pub found : List ℕ
    pub pool : Pool found
    pub full : 32 ≤ length found
    pub mask : ℕ
    pub good : Good mask
    pub new : Stands mask found → ⊥

  data Entering (found : List ℕ) (mask : ℕ) : Type 0 where
    known : Stands mask found → entered found mask ≡ Some found → Entering found mask
    added : (Stands mask found → ⊥) → length found < 32 → entered found mask ≡ Some (found ++ mask ∷ []) → Entering found mask
    full : (Stands mask found → ⊥) → 32 ≤ length found → entered found mask ≡ None → Entering found mask

  entering : (found : List ℕ) (mask : ℕ) → Entering found mask
  entering found mask = go (cases_lt (position mask found) (length found)) (cases_lt (length found) 32)
    where
      go : (position mask found < length found) ⊎ (length found ≤ position mask found) → (length found < 32) ⊎ (32 ≤ length found) → Entering found mask
      go (inl h) _ = known (position mask found, h, position_stands mask found h) (entered_known found mask h)
      go (inr h) (inl k) = added (position_absent mask found h) k (entered_new found mask h k)
      go (inr h) (inr k) = full (position_absent mask found h) k (entered_full found mask h k)

  module _ (mask : ℕ) (g : Good mask) where
    abbrev as' : List Act
    as' = in_set mask v.acts

    abbrev next : ℕ → ℕ
    next label = spread v.silent (ends label as')

    next_good : (label : ℕ) (f : Act) → first_with label as' ≡ Some f → Good (next label)
    unfolding successor
    next_good label f e = record { small = successor_small sh valid m mask g.small label; reached = successor_reached sh valid m mask g.small label f e g.reached }

    -- the label has no act, or its successor stands among those found
    abbrev pub Done : List ℕ → ℕ → Type 0
    Done found label = (first_with label as' ≡ None) ⊎ Stands (next label) found

    pub record AfterLabel (found more : List ℕ) (label : ℕ) : Type 0 where
      pub pool : Pool more
      pub grows : Grows found more
      pub done : Done more label

    label_none : (found : List ℕ) (label : ℕ) → first_with label as' ≡ None → label_entered v.silent as' found label ≡ Some found
    unfolding label_entered
    label_none found label e = cond-false _ _ _ (ap is_some e)

    label_some : (found : List ℕ) (label : ℕ) (f : Act) → first_with label as' ≡ Some f → label_entered v.silent as' found label ≡ entered found (next label)
    unfolding label_entered
    label_some found label f e = cond-true _ _ _ (ap is_some e)

    data Labelled (found : List ℕ) (label : ℕ) : Type 0 where
      goes : (more : List ℕ) → label_entered v.silent as' found label ≡ Some more → AfterLabel found more label → Labelled found label
      stops : label_entered v.silent as' found label ≡ None → Overfull → Labelled found label

    labelling : (found : List ℕ) (label : ℕ) → Pool found → Labelled found label
    labelling found label p = go (first_with label as') refl
      where
        with_act : (f : Act) → first_with label as' ≡ Some f → Entering found (next label) → Labelled found label
        with_act f e (known s q) = goes found (label_some found label f e ∙ q) (record { pool = p; grows = grows_refl found; done = inr s })
        with_act f e (added n r q) = goes (found ++ next label ∷ []) (label_some found label f e ∙ q) (record {
          pool = pool_push found (next label) p r (next_good label f e) n;
          grows = grows_push found (next label);
          done = inr (length found, omega (arith, length_push found (next label)), get_or_push found (next label) 0 (length found) refl);
        })
        with_act f e (full n r q) = stops (label_some found label f e ∙ q) (record { found = found; pool = p; full = r; mask = next label; good = next_good label f e; new = n })

        go : (o : Option Act) → first_with label as' ≡ o → Labelled found label
        go None e = goes found (label_none found label e) (record { pool = p; grows = grows_refl found; done = inl e })
        go (Some f) e = with_act f e (entering found (next label))

    pub record AllLabels (found more : List ℕ) (label n : ℕ) : Type 0 where
      pub pool : Pool more
      pub grows : Grows found more
      pub done : (l : ℕ) → label ≤ l → l < label + n → Done more l

    pub data FollowedBy (found : List ℕ) (label n : ℕ) : Type 0 where
      through : (more : List ℕ) → followed v.silent as' label n found ≡ Some more → AllLabels found more label n → FollowedBy found label n
      over : followed v.silent as' label n found ≡ None → Overfull → FollowedBy found label n

    pub following : (n label : ℕ) (found : List ℕ) → Pool found → FollowedBy found label n
    following zero label found p = through found refl (record { pool = p; grows = grows_refl found; done = λ l a b. absurd (omega arith) })
    following (suc n) label found p = go (λ more q. following n (label + 1) more q) (labelling found label p)
      where
        done_grows : (more most : List ℕ) (l : ℕ) → Grows more most → Done more l → Done most l
        done_grows more most l gr (inl e) = inl e
        done_grows more most l gr (inr s) = inr (stands_grows (next l) more most gr s)

        dones : (more most : List ℕ) → AfterLabel found more label → AllLabels more most (label + 1) n → (l : ℕ) → label ≤ l → l < label + suc n → (l ≡ label) ⊎ (l ≡ label → ⊥) → Done most l
        dones more most a b l lo hi (inl q) = done_grows more most l b.grows (subst (Done more) (sym q) a.done)
        dones more most a b l lo hi (inr q) = b.done l (omega arith) (omega arith)

        rest : (more : List ℕ) → label_entered v.silent as' found label ≡ Some more → AfterLabel found more label → FollowedBy more (label + 1) n → FollowedBy found label (suc n)
        rest more e a (through most q b) = through most (followed_some v.silent as' label n found more e ∙ q)
            (record { pool = b.pool; grows = grows_then found more most a.grows b.grows; done = λ l lo hi. dones more most a b l lo hi (cases_eq l label) })
        rest more e a (over q o) = over (followed_some v.silent as' label n found more e ∙ q) o

        go : ((more : List ℕ) → Pool more → FollowedBy more (label + 1) n) → Labelled found label → FollowedBy found label (suc n)
        go rec (goes more e a) = rest more e a (rec more a.pool)
        go rec (stops e o) = over (followed_none v.silent as' label n found e) o

  abbrev labels : ℕ
  labels = length sh.labels

  -- before set k is judged: those before it are sound, and their successors stand among those found
  pub record Kept (k : ℕ) (found : List ℕ) : Type 0 where
    pub pool : Pool found
    pub reach : k ≤ length found
    pub some : 0 < length found
    pub first : get_or found 0 0 ≡ start_set v
    pub sound : (i : ℕ) → i < k → Sound sh m (In (get_or found i 0))
    pub done : (i : ℕ) → i < k → (label : ℕ) → label < labels → (first_with label (in_set (get_or found i 0) v.acts) ≡ None) ⊎ Stands (successor v (get_or found i 0) label) found

  pub kept_start : Kept 0 (start_set v ∷ [])
  kept_start = record {
    pool = record { few = omega arith; good = λ i h. goods i h; apart = λ i j l h e. omega arith };
    reach = omega arith;
    some = omega arith;
    first = refl;
    sound = λ i h. absurd (omega arith);
    done = λ i h. absurd (omega arith);
  }
    where
      goods : (i : ℕ) → i < 1 → Good (get_or (start_set v ∷ []) i 0)
      goods zero h = record { small = start_small sh valid m; reached = start_reached sh valid m }
      goods (suc i) h = absurd (omega arith)

  module _ (k : ℕ) (found : List ℕ) (kept : Kept k found) (h : k < length found) where
    abbrev mask : ℕ
    mask = get_or found k 0

    pub good_mask : Good mask
    good_mask = kept.pool.good k h

    pub kept_more : (more : List ℕ) → Sound sh m (In mask) → AllLabels mask good_mask found more 0 labels → Kept (k + 1) more
    unfolding successor
    kept_more more ok all = record {
      pool = all.pool;
      reach = omega (arith, all.grows.longer);
      some = omega (arith, all.grows.longer, kept.some);
      first = all.grows.same 0 kept.some ∙ kept.first;
      sound = λ i l. sounds i l (cases_eq i k);
      done = λ i l label b. dones i l label b (cases_eq i k);
    }
      where
        at : (i : ℕ) → i < length found → get_or more i 0 ≡ get_or found i 0
        at i l = all.grows.same i l

        sounds : (i : ℕ) → i < k + 1 → (i ≡ k) ⊎ (i ≡ k → ⊥) → Sound sh m (In (get_or more i 0))
        sounds i l (inl q) = subst (λ x. Sound sh m (In x)) (sym (at i (omega arith) ∙ ap (λ n. get_or found n 0) q)) ok
        sounds i l (inr q) = subst (λ x. Sound sh m (In x)) (sym (at i (omega arith))) (kept.sound i (omega arith))

        Out : ℕ → ℕ → List ℕ → Type 0
        Out x label ys = (first_with label (in_set x v.acts) ≡ None) ⊎ Stands (successor v x label) ys

        wider : (x label : ℕ) → Out x label found → Out x label more
        wider x label (inl e) = inl e
        wider x label (inr s) = inr (stands_grows (successor v x label) found more all.grows s)

        dones : (i : ℕ) → i < k + 1 → (label : ℕ) → label < labels → (i ≡ k) ⊎ (i ≡ k → ⊥) → Out (get_or more i 0) label more
        dones i l label b (inl q) = subst (λ x. Out x label more) (sym (at i (omega arith) ∙ ap (λ n. get_or found n 0) q)) (all.done label (omega arith) (omega arith))
        dones i l label b (inr q) = subst (λ x. Out x label more) (sym (at i (omega arith))) (wider (get_or found i 0) label (kept.done i (omega arith) label b))

    pub data Visiting : Type 0 where
      sound_and : (more : List ℕ) → visited m v labels k mask found ≡ sets more → Kept (k + 1) more → Visiting
      unsound : (f : PartFault) → visited m v labels k mask found ≡ stopped f → (Sound sh m (In mask) → ⊥) → Visiting
      too_many : (f : PartFault) → visited m v labels k mask found ≡ stopped f → Overfull → Visiting

    pub visiting : Visiting
    unfolding visited
    visiting = go (first_failing_point v.leading mask (in_set mask v.acts)) refl
      where
        after : first_failing_point v.leading mask (in_set mask v.acts) ≡ None → FollowedBy mask good_mask found 0 labels → Visiting
        after e (through more q all) = sound_and more (rw (e, q)) (kept_more more (judged_sound sh valid m mask good_mask.small e) all)
        after e (over q o) = too_many (Sets m k) (rw (e, q)) o

        go : (o : Option Point) → first_failing_point v.leading mask (in_set mask v.acts) ≡ o → Visiting
        go None e = after e (following mask good_mask labels 0 found kept.pool)
        go (Some p) e = unsound (fault_of_point p m k) (rw e) (λ ok. let q = sym e ∙ sound_judged sh valid m mask good_mask.small ok in cc)

  -- how the exploring ends
  pub data Ending (o : Found) : Type 0 where
    all_found : (F : List ℕ) → o ≡ sets F → Kept (length F) F → Ending o
    at_unsound : (f : PartFault) (mask : ℕ) → o ≡ stopped f → Good mask → (Sound sh m (In mask) → ⊥) → Ending o
    at_overfull : (f : PartFault) → o ≡ stopped f → Overfull → Ending o

  pub ending : (n k : ℕ) (found : List ℕ) → Kept k found → 33 ≤ n + k → Ending (explored m v labels n k found)
  ending zero k found kept b = absurd (omega (arith, kept.reach, kept.pool.few))
  ending (suc n) k found kept b = go (λ more q. ending n (k + 1) more q (omega arith)) (cases_lt k (length found))
    where
      onward : (more : List ℕ) → explored m v labels (suc n) k found ≡ explored m v labels n (k + 1) more → Ending (explored m v labels n (k + 1) more) → Ending (explored m v labels (suc n) k found)
      onward more q (all_found F e w) = all_found F (q ∙ e) w
      onward more q (at_unsound f mask e g w) = at_unsound f mask (q ∙ e) g w
      onward more q (at_overfull f e w) = at_overfull f (q ∙ e) w

      visit : ((more : List ℕ) → Kept (k + 1) more → Ending (explored m v labels n (k + 1) more)) → (h : k < length found) → Visiting k found kept h → Ending (explored m v labels (suc n) k found)
      visit rec h (sound_and more e w) = let t = lt-ltb k (length found) h in onward more (rw (t, e, explored)) (rec more w)
      visit rec h (unsound f e w) = let t = lt-ltb k (length found) h in at_unsound f (get_or found k 0) (rw (t, e, explored)) (kept.pool.good k h) w
      visit rec h (too_many f e w) = let t = lt-ltb k (length found) h in at_overfull f (rw (t, e, explored)) w

      go : ((more : List ℕ) → Kept (k + 1) more → Ending (explored m v labels n (k + 1) more)) → (k < length found) ⊎ (length found ≤ k) → Ending (explored m v labels (suc n) k found)
      go rec (inl h) = visit rec h (visiting k found kept h)
      go rec (inr h) =
          let t = le-ltb k (length found) h in
          let e : k ≡ length found = omega (arith, kept.reach) in
          all_found found (rw t) (subst (λ j. Kept j found) e kept)

  pub family_ends : Ending (family_of m v labels)
  unfolding family_of
  family_ends = ending 33 0 (start_set v ∷ []) kept_start (omega arith)

  pub label_below : {s t : ℕ} {a : Action} {l : ℕ} → Step sh m s a t → a.label ≡ l → l < length sh.labels
  label_below {a = a} st e = omega (arith, label_known sh valid st.place st.has, asked_label m st.place a st.acts, e)

  -- the sets found are all the sets
  module _ (F : List ℕ) (kept : Kept (length F) F) where
    at : (i : ℕ) → i < length (map has F) → (i < length F) × (get_or (map has F) i (λ _. false) ≡ has (get_or F i 0))
    at i h = let l : i < length F = omega (arith, length-map F has, h) in (l, get_or-map has F i 0 (λ _. false) l)

    goes_on : (i : ℕ) → i < length (map has F) → (l t : ℕ) → Led sh m (Of (map has F) i) l t → (j : ℕ) × (j < length (map has F)) × Is (map has F) j (Successor sh m (Of (map has F) i) l)
    goes_on i h l t d = subst (λ (f : ℕ → Bool). (j : ℕ) × (j < length (map has F)) × Is (map has F) j (Successor sh m (λ s. f s ≡ true) l)) (sym (at i h).1) (go (subst (λ (f : ℕ → Bool). Led sh m (λ s. f s ≡ true) l t) (at i h).1 d) (kept.done i (at i h).0 l (label_below d.step d.labelled)))
      where
        go : Led sh m (In (get_or F i 0)) l t → (first_with l (in_set (get_or F i 0) v.acts) ≡ None) ⊎ Stands (successor v (get_or F i 0) l) F → (j : ℕ) × (j < length (map has F)) × Is (map has F) j (Successor sh m (In (get_or F i 0)) l)
        go led (inl e) = absurd (unlabelled sh valid m (get_or F i 0) (kept.pool.good i (at i h).0).small l e t led)
        go led (inr st) =
            let k : st.0 < length (map has F) = omega (arith, length-map F has, st.1) in
            (st.0, k, λ s. rw ((at st.0 k).1, st.2) (successor_decides sh valid m (get_or F i 0) (kept.pool.good i (at i h).0).small l s))

    pub has_part : HasPart sh m
    has_part = found_part sh m (map has F) (record {
      any = omega (arith, length-map F has, kept.some);
      first = λ s. rw (get_or-map has F 0 0 (λ _. false) kept.some, kept.first) (start_decides sh valid m s);
      sound = λ i h. subst (λ (f : ℕ → Bool). Sound sh m (λ s. f s ≡ true)) (sym (at i h).1) (kept.sound i (at i h).0);
      next = goes_on;
    }) (omega (arith, length-map F has, kept.pool.few))

  -- a set that is not sound, or one too many: the role has no part
  pub unsound_refused : (mask : ℕ) → Good mask → (Sound sh m (In mask) → ⊥) → HasPart sh m → ⊥
  unsound_refused mask g bad p =
      let r = g.reached in
      bad (sound_within sh m (After sh m (Start sh m) r.labels) (In mask) (λ s x. (r.is s).1 x) (λ s x. (r.is s).0 x) (p.sound r.labels r.followed))

  pub overfull_refused : Overfull → HasPart sh m → ⊥
  overfull_refused o p = clash (pigeons 32 place within)
    where
      set : ℕ → ℕ
      set i = cond (ltb i 32) (get_or o.found i 0) o.mask

      good : (i : ℕ) → Good (cond (ltb i 32) (get_or o.found i 0) o.mask)
      good i = go (cases_lt i 32)
        where
          go : (i < 32) ⊎ (32 ≤ i) → Good (cond (ltb i 32) (get_or o.found i 0) o.mask)
          go (inl h) = subst Good (sym (cond-true _ _ _ (lt-ltb i 32 h))) (o.pool.good i (omega (arith, o.full)))
          go (inr h) = subst Good (sym (cond-false _ _ _ (le-ltb i 32 h))) o.good

      spot : (i : ℕ) → (j : ℕ) × (j < length p.sets) × ((s : ℕ) → Decides (get_or p.sets j (λ _. false) s) (After sh m (Start sh m) (good i).reached.labels s))
      spot i = p.all (good i).reached.labels (good i).reached.followed

      place : ℕ → ℕ
      place i = (p.all (good i).reached.labels (good i).reached.followed).0

      within : (i : ℕ) → i < 33 → (p.all (good i).reached.labels (good i).reached.followed).0 < 32
      within i h = omega (arith, (spot i).1, p.few)

      same : (i j : ℕ) → (p.all (good i).reached.labels (good i).reached.followed).0 ≡ (p.all (good j).reached.labels (good j).reached.followed).0
          → cond (ltb i 32) (get_or o.found i 0) o.mask ≡ cond (ltb j 32) (get_or o.found j 0) o.mask
      same i j e = decided_same _ _ (λ s. get_or p.sets (spot i).0 (λ _. false) s ≡ true)
          (λ s. let a = (good i).reached.is s in let b = (spot i).2 s in (λ x. b.1 (a.0 x), λ x. a.1 (b.0 x)))
          (λ s. let a = (good j).reached.is s in let b = subst (λ k. Decides (get_or p.sets k (λ _. false) s) (After sh m (Start sh m) (good j).reached.labels s)) (sym e) ((spot j).2 s) in (λ x. b.1 (a.0 x), λ x. a.1 (b.0 x)))

      clash : (i : ℕ) × (j : ℕ) × (i < j) × (j < 33) × (place i ≡ place j) → ⊥
      clash c = go (cases_lt c.1 32)
        where
          q : cond (ltb c.0 32) (get_or o.found c.0 0) o.mask ≡ cond (ltb c.1 32) (get_or o.found c.1 0) o.mask
          q = same c.0 c.1 c.4

          low : get_or o.found c.0 0 ≡ cond (ltb c.1 32) (get_or o.found c.1 0) o.mask
          low = sym (cond-true _ _ _ (lt-ltb c.0 32 (omega (arith, c.2, c.3)))) ∙ q

          go : (c.1 < 32) ⊎ (32 ≤ c.1) → ⊥
          go (inl h) = o.pool.apart c.0 c.1 c.2 (omega (arith, o.full)) (low ∙ cond-true _ _ _ (lt-ltb c.1 32 h))
          go (inr h) = o.new (c.0, omega (arith, c.2, c.3, o.full), low ∙ cond-false _ _ _ (le-ltb c.1 32 h))

  pub refused : (f : PartFault) → family_of m v labels ≡ stopped f → HasPart sh m → ⊥
  refused f e p = go family_ends
    where
      go : Ending (family_of m v labels) → ⊥
      go (all_found F q w) = cc
      go (at_unsound g mask q good bad) = unsound_refused mask good bad p
      go (at_overfull g q o) = overfull_refused o p

  pub accepted : (F : List ℕ) → family_of m v labels ≡ sets F → Kept (length F) F
  accepted F e = go family_ends
    where
      go : Ending (family_of m v labels) → Kept (length F) F
      go (all_found G q w) = let same : G ≡ F = cc in subst (λ l. Kept (length l) l) same w
      go (at_unsound g mask q good bad) = absurd cc
      go (at_overfull g q o) = absurd cc
