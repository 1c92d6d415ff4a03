-- A test that finds out that a role has a part, for sheets that are written out: its sets are handed in as lists of
-- states, each state behind one that it is reached from.
use Rattle.std.proofs.Common.{◌≡◌, ℕ, ◌<◌, Bool, true, false, not, ◌&&◌, ◌||◌, eqb, leb, ◌⊎◌, List, [], ◌∷◌, map, length, get_or, Decides, sym, refl, ap, ◌∙◌, subst, inl, inr, arith}
use mathlib.Core.List.{Memᴰ}
use lib.ListN.{length-map}
use Rattle.std.proofs.Math.ListN.{get_or-map}
use Rattle.std.proofs.lemmas.Bool.{and_parts, and_from, or_cases, or_left, eq-eqb, eqb-true, leb-true, false≢true}
use Rattle.std.specs.List.{list_all, list_any}
use Rattle.sheet.specs.Model.{Sheet}
use Rattle.protocol.specs.Places.{Place, Has}
use Rattle.protocol.specs.Actions.{Way, sends, receives, Timing, Action, turn}
use Rattle.protocol.specs.Sets.{Silent, here, on, Acts, Start, Led, Successor}
use Rattle.protocol.specs.Sound.{Reaches, now, later, Told, Sound}
use Rattle.protocol.specs.Accepted.{HasPart}
use Rattle.protocol.proofs.Turns.{Asked, asked, unasked, ask}
use Rattle.protocol.proofs.Listed.{places, has_from_listed, listed_from_has, if_so, every_true, any_true, if_true, index_of, member_at}
use Rattle.protocol.proofs.Found.{Of, Is, Found, found_part}

abbrev pub inside : List ℕ → ℕ → Bool
inside X s = list_any (λ t. eqb t s) X

abbrev pub In : List ℕ → ℕ → Type 0
In X s = inside X s ≡ true

abbrev pub idle : List Action → Bool
idle [] = true
idle (a ∷ as') = false

abbrev pub labelled : ℕ → Action → Bool
labelled l a = eqb a.label l

-- the next states of that label's branches in the states of X in which the role acts
abbrev pub led : ℕ → List Place → List ℕ → ℕ → ℕ → Bool
led m ps X l s = list_any (λ p. eqb p.branch.next s && (inside X p.state && list_any (labelled l) (turn m p))) ps

-- X holds what is silently reached from it
abbrev pub spreads : ℕ → List Place → List ℕ → Bool
spreads m ps X = list_all (λ p. if_so (inside X p.state && idle (turn m p)) (inside X p.branch.next)) ps

-- each state is in the base, or silently reached from an earlier one
abbrev pub built : ℕ → List Place → (ℕ → Bool) → List ℕ → List ℕ → Bool
built m ps base earlier [] = true
built m ps base earlier (s ∷ rest) =
    (base s || list_any (λ p. eqb p.branch.next s && (inside earlier p.state && idle (turn m p))) ps) && built m ps base (s ∷ earlier) rest

abbrev pub starts : ℕ → List Place → List ℕ → Bool
starts m ps X = inside X 0 && (spreads m ps X && built m ps (λ s. eqb s 0) [] X)

abbrev pub follows : ℕ → List Place → List ℕ → ℕ → List ℕ → Bool
follows m ps X l Y =
    list_all (λ p. if_so (inside X p.state && list_any (labelled l) (turn m p)) (inside Y p.branch.next)) ps
    && (spreads m ps Y && built m ps (led m ps X l) [] Y)

abbrev pub same_way : Way → Way → Bool
same_way sends sends = true
same_way sends receives = false
same_way receives sends = false
same_way receives receives = true

abbrev pub same_bool : Bool → Bool → Bool
same_bool true b = b
same_bool false b = not b

abbrev pub equal_timing : Timing → Timing → Bool
equal_timing t u = eqb t.row u.row && same_bool t.reset u.reset

abbrev pub alike : ℕ → List Place → Place → Action → Action → Bool
alike m ps q a b =
    same_way a.way b.way
    && (eqb a.partner b.partner
    && (if_so (same_way a.way sends) (list_any (λ r. eqb r.state q.state && list_any (λ c. eqb c.label a.label && equal_timing c.timing a.timing) (turn m r)) ps)
    && if_so (eqb a.label b.label) (equal_timing a.timing b.timing)))

abbrev pub points : ℕ → List Place → List ℕ → Bool
points m ps X = list_all (λ p. if_so (inside X p.state) (list_all (λ q. if_so (inside X q.state) (list_all (λ a. list_all (λ b. alike m ps q a b) (turn m q)) (turn m p))) ps)) ps

-- in each state the role acts, or a place leads from it to an earlier one
abbrev pub leading : ℕ → List Place → List ℕ → List ℕ → Bool
leading m ps earlier [] = true
leading m ps earlier (s ∷ rest) =
    list_any (λ p. eqb p.state s && (not (idle (turn m p)) || inside earlier p.branch.next)) ps && leading m ps (s ∷ earlier) rest

abbrev pub told : ℕ → List Place → List ℕ → List ℕ → Bool
told m ps reach X = list_all (λ p. if_so (inside X p.state) (idle (turn m p))) ps || list_all (inside reach) X

abbrev pub closes : ℕ → List Place → List (List ℕ) → List ℕ → Bool
closes m ps sets X = list_all (λ p. if_so (inside X p.state) (list_all (λ a. list_any (follows m ps X a.label) sets) (turn m p))) ps

abbrev pub good : ℕ → List Place → List ℕ → List (List ℕ) → List ℕ → Bool
good m ps reach sets X = points m ps X && (told m ps reach X && closes m ps sets X)

abbrev pub begins : ℕ → List Place → List (List ℕ) → Bool
begins m ps [] = false
begins m ps (X ∷ sets) = starts m ps X

-- the sets are the role's sets, they are sound, and at most 32; `reach` lists states from which the role can come to act
abbrev pub part_of : Sheet → ℕ → List ℕ → List (List ℕ) → Bool
part_of sh m reach sets = begins m (places sh) sets && (leading m (places sh) [] reach && (leb (length sets) 32 && list_all (good m (places sh) reach sets) sets))

idle_true : (as' : List Action) → idle as' ≡ true → as' ≡ []
idle_true [] q = refl
idle_true (a ∷ as') q = absurd (false≢true q)

way_true : (v w : Way) → same_way v w ≡ true → v ≡ w
way_true sends sends q = refl
way_true sends receives q = absurd (false≢true q)
way_true receives sends q = absurd (false≢true q)
way_true receives receives q = refl

way_from : (v w : Way) → v ≡ w → same_way v w ≡ true
way_from v w q = subst (λ (z : Way). same_way v z ≡ true) q (itself v)
  where
    itself : (v : Way) → same_way v v ≡ true
    itself sends = refl
    itself receives = refl

bool_true : (a b : Bool) → same_bool a b ≡ true → a ≡ b
bool_true true true q = refl
bool_true true false q = absurd (false≢true q)
bool_true false true q = absurd (false≢true q)
bool_true false false q = refl

abbrev make_timing : ℕ → Bool → Timing
make_timing r b = record { row = r; reset = b }

timing_true : (t u : Timing) → equal_timing t u ≡ true → t ≡ u
timing_true t u q =
    let x = and_parts (eqb t.row u.row) (same_bool t.reset u.reset) q in
    let e : make_timing t.row t.reset ≡ make_timing u.row u.reset = rw (eqb-true t.row u.row x.0, bool_true t.reset u.reset x.1) in
    e

-- the one action of a place
asked_any : (m : ℕ) (p : Place) (f : Action → Bool) → list_any f (turn m p) ≡ true → (a : Action) × (turn m p ≡ a ∷ []) × (f a ≡ true)
asked_any m p f q = go (ask m p)
  where
    go : Asked m p → (a : Action) × (turn m p ≡ a ∷ []) × (f a ≡ true)
    go (unasked t) = absurd (false≢true (sym (ap (list_any f) t) ∙ q))
    go (asked a t) = (a, t, one (or_cases (f a) false (sym (ap (list_any f) t) ∙ q)))
      where
        one : (f a ≡ true) ⊎ (false ≡ true) → f a ≡ true
        one (inl r) = r
        one (inr r) = absurd (false≢true r)

any_asked : (m : ℕ) (p : Place) (a : Action) → turn m p ≡ a ∷ [] → (f : Action → Bool) → f a ≡ true → list_any f (turn m p) ≡ true
any_asked m p a t f q = ap (list_any f) t ∙ or_left (f a) false q

every_asked : (m : ℕ) (p : Place) (a : Action) → turn m p ≡ a ∷ [] → (f : Action → Bool) → list_all f (turn m p) ≡ true → f a ≡ true
every_asked m p a t f q = (and_parts (f a) true (sym (ap (list_all f) t) ∙ q)).0

module _ (sh : Sheet) (m : ℕ) where
  led_true : (X : List ℕ) (l s : ℕ) → led m (places sh) X l s ≡ true → Led sh m (In X) l s
  led_true X l s q =
      let r = any_true (λ p. eqb p.branch.next s && (inside X p.state && list_any (labelled l) (turn m p))) (places sh) q in
      let p : Place = r.0 in
      let x = and_parts (eqb p.branch.next s) (inside X p.state && list_any (labelled l) (turn m p)) r.2 in
      let y = and_parts (inside X p.state) (list_any (labelled l) (turn m p)) x.1 in
      let z = asked_any m p (labelled l) y.1 in
      record {
        state = p.state;
        inside = y.0;
        action = z.0;
        labelled = eqb-true z.0.label l z.2;
        step = record { place = p; has = has_from_listed sh p r.1; at = refl; acts = z.1; leads = eqb-true p.branch.next s x.0 };
      }

  -- a set that holds the base and what is silently reached holds the closure
  closure_in : (X : List ℕ) (Base : ℕ → Type 0) → spreads m (places sh) X ≡ true → ((s : ℕ) → Base s → In X s) → (s : ℕ) → Silent sh m Base s → In X s
  closure_in X Base q base s (here x) = base s x
  closure_in X Base q base s (on p hp x t e) =
      let y : In X p.state = closure_in X Base q base p.state x in
      let r = every_true (λ p. if_so (inside X p.state && idle (turn m p)) (inside X p.branch.next)) (places sh) q p (listed_from_has sh p hp) in
      subst (In X) e (if_true (inside X p.state && idle (turn m p)) (inside X p.branch.next) r (and_from (inside X p.state) (idle (turn m p)) y (ap idle t)))

  -- a set that is built from the base is in the closure
  closure_out : (base : ℕ → Bool) (Base : ℕ → Type 0) → ((s : ℕ) → base s ≡ true → Base s) → (X earlier : List ℕ) → ((s : ℕ) → In earlier s → Silent sh m Base s) → built m (places sh) base earlier X ≡ true →
      (s : ℕ) → In X s → Silent sh m Base s
  closure_out base Base is [] earlier before q s i = absurd (false≢true i)
  closure_out base Base is (x ∷ X) earlier before q s i = go (λ f. closure_out base Base is X (x ∷ earlier) f parts.1 s) (or_cases (eqb x s) (inside X s) i)
    where
      parts : ((base x || list_any (λ p. eqb p.branch.next x && (inside earlier p.state && idle (turn m p))) (places sh)) ≡ true) × (built m (places sh) base (x ∷ earlier) X ≡ true)
      parts = and_parts (base x || list_any (λ p. eqb p.branch.next x && (inside earlier p.state && idle (turn m p))) (places sh)) (built m (places sh) base (x ∷ earlier) X) q

      first : Silent sh m Base x
      first = pick (or_cases (base x) (list_any (λ p. eqb p.branch.next x && (inside earlier p.state && idle (turn m p))) (places sh)) parts.0)
        where
          pick : (base x ≡ true) ⊎ (list_any (λ p. eqb p.branch.next x && (inside earlier p.state && idle (turn m p))) (places sh) ≡ true) → Silent sh m Base x
          pick (inl b) = here (is x b)
          pick (inr r) =
              let a = any_true (λ p. eqb p.branch.next x && (inside earlier p.state && idle (turn m p))) (places sh) r in
              let p : Place = a.0 in
              let y = and_parts (eqb p.branch.next x) (inside earlier p.state && idle (turn m p)) a.2 in
              let z = and_parts (inside earlier p.state) (idle (turn m p)) y.1 in
              on p (has_from_listed sh p a.1) (before p.state z.0) (idle_true (turn m p) z.1) (eqb-true p.branch.next x y.0)

      go : (((t : ℕ) → In (x ∷ earlier) t → Silent sh m Base t) → In X s → Silent sh m Base s) → (eqb x s ≡ true) ⊎ (inside X s ≡ true) → Silent sh m Base s
      go rec (inl r) = subst (Silent sh m Base) (eqb-true x s r) first
      go rec (inr r) = rec more r
        where
          more : (t : ℕ) → In (x ∷ earlier) t → Silent sh m Base t
          more t j = pick (or_cases (eqb x t) (inside earlier t) j)
            where
              pick : (eqb x t ≡ true) ⊎ (inside earlier t ≡ true) → Silent sh m Base t
              pick (inl e) = subst (Silent sh m Base) (eqb-true x t e) first
              pick (inr e) = before t e

  starts_true : (X : List ℕ) → starts m (places sh) X ≡ true → (s : ℕ) → Decides (inside X s) (Start sh m s)
  starts_true X q s =
      let a = and_parts (inside X 0) (spreads m (places sh) X && built m (places sh) (λ s. eqb s 0) [] X) q in
      let b = and_parts (spreads m (places sh) X) (built m (places sh) (λ s. eqb s 0) [] X) a.1 in (
        closure_out (λ s. eqb s 0) (λ s. s ≡ 0) (λ s r. eqb-true s 0 r) X [] (λ t i. absurd (false≢true i)) b.1 s,
        closure_in X (λ s. s ≡ 0) b.0 (λ t e. subst (In X) (sym e) a.0) s,
      )

  follows_true : (X : List ℕ) (l : ℕ) (Y : List ℕ) → follows m (places sh) X l Y ≡ true → (s : ℕ) → Decides (inside Y s) (Successor sh m (In X) l s)
  follows_true X l Y q s =
      let a = and_parts (list_all (λ p. if_so (inside X p.state && list_any (labelled l) (turn m p)) (inside Y p.branch.next)) (places sh)) (spreads m (places sh) Y && built m (places sh) (led m (places sh) X l) [] Y) q in
      let b = and_parts (spreads m (places sh) Y) (built m (places sh) (led m (places sh) X l) [] Y) a.1 in (
        closure_out (led m (places sh) X l) (Led sh m (In X) l) (led_true X l) Y [] (λ t i. absurd (false≢true i)) b.1 s,
        closure_in Y (Led sh m (In X) l) b.0 (covered a.0) s,
      )
    where
      covered : list_all (λ p. if_so (inside X p.state && list_any (labelled l) (turn m p)) (inside Y p.branch.next)) (places sh) ≡ true → (t : ℕ) → Led sh m (In X) l t → In Y t
      covered c t x =
          let p : Place = x.step.place in
          let r = every_true (λ p. if_so (inside X p.state && list_any (labelled l) (turn m p)) (inside Y p.branch.next)) (places sh) c p (listed_from_has sh p x.step.has) in
          subst (In Y) x.step.leads
          (if_true (inside X p.state && list_any (labelled l) (turn m p)) (inside Y p.branch.next) r
          (and_from (inside X p.state) (list_any (labelled l) (turn m p)) (subst (In X) (sym x.step.at) x.inside) (any_asked m p x.action x.step.acts (labelled l) (eq-eqb x.action.label l x.labelled))))

  -- what the test of two actions says
  module _ (X : List ℕ) (q : points m (places sh) X ≡ true) (s t : ℕ) (x : In X s) (y : In X t) (a b : Action) (i : Acts sh m s a) (j : Acts sh m t b) where
    pair : alike m (places sh) j.1.place a b ≡ true
    pair =
        let p : Place = i.1.place in
        let r : Place = j.1.place in
        let f = every_true (λ p. if_so (inside X p.state) (list_all (λ q. if_so (inside X q.state) (list_all (λ a. list_all (λ b. alike m (places sh) q a b) (turn m q)) (turn m p))) (places sh))) (places sh) q p (listed_from_has sh p i.1.has) in
        let g = if_true (inside X p.state) (list_all (λ q. if_so (inside X q.state) (list_all (λ a. list_all (λ b. alike m (places sh) q a b) (turn m q)) (turn m p))) (places sh)) f (subst (In X) (sym i.1.at) x) in
        let h = every_true (λ q. if_so (inside X q.state) (list_all (λ a. list_all (λ b. alike m (places sh) q a b) (turn m q)) (turn m p))) (places sh) g r (listed_from_has sh r j.1.has) in
        let k = if_true (inside X r.state) (list_all (λ a. list_all (λ b. alike m (places sh) r a b) (turn m r)) (turn m p)) h (subst (In X) (sym j.1.at) y) in
        every_asked m r b j.1.acts (λ b. alike m (places sh) r a b) (every_asked m p a i.1.acts (λ a. list_all (λ b. alike m (places sh) r a b) (turn m r)) k)

    abbrev offer_test : Bool
    offer_test = if_so (same_way a.way sends) (list_any (λ r. eqb r.state j.1.place.state && list_any (λ c. eqb c.label a.label && equal_timing c.timing a.timing) (turn m r)) (places sh))

    abbrev clash_test : Bool
    clash_test = if_so (eqb a.label b.label) (equal_timing a.timing b.timing)

    tests : (a.way ≡ b.way) × (a.partner ≡ b.partner) × (offer_test ≡ true) × (clash_test ≡ true)
    tests =
        let u = and_parts (same_way a.way b.way) (eqb a.partner b.partner && (offer_test && clash_test)) pair in
        let v = and_parts (eqb a.partner b.partner) (offer_test && clash_test) u.1 in
        let w = and_parts offer_test clash_test v.1 in
        (way_true a.way b.way u.0, eqb-true a.partner b.partner v.0, w.0, w.1)

    clashes : a.label ≡ b.label → a.timing ≡ b.timing
    clashes l = timing_true a.timing b.timing (if_true (eqb a.label b.label) (equal_timing a.timing b.timing) tests.3 (eq-eqb a.label b.label l))

    offers : a.way ≡ sends → (c : Action) × Acts sh m t c × (c.label ≡ a.label) × (c.timing ≡ a.timing)
    offers w =
        let f : Place → Bool = λ r. eqb r.state j.1.place.state && list_any (λ c. eqb c.label a.label && equal_timing c.timing a.timing) (turn m r) in
        let g : Action → Bool = λ c. eqb c.label a.label && equal_timing c.timing a.timing in
        let u = any_true f (places sh) (if_true (same_way a.way sends) (list_any f (places sh)) tests.2 (way_from a.way sends w)) in
        let r : Place = u.0 in
        let v = and_parts (eqb r.state j.1.place.state) (list_any g (turn m r)) u.2 in
        let c = asked_any m r g v.1 in
        let z = and_parts (eqb c.0.label a.label) (equal_timing c.0.timing a.timing) c.2 in (
          c.0,
          (r.branch.next, record { place = r; has = has_from_listed sh r u.1; at = eqb-true r.state j.1.place.state v.0 ∙ j.1.at; acts = c.1; leads = refl }),
          eqb-true c.0.label a.label z.0,
          timing_true c.0.timing a.timing z.1,
        )

  -- from each of the listed states the role can come to act
  leading_true : (R earlier : List ℕ) → ((s : ℕ) → In earlier s → Reaches sh m s) → leading m (places sh) earlier R ≡ true → (s : ℕ) → In R s → Reaches sh m s
  leading_true [] earlier before q s i = absurd (false≢true i)
  leading_true (x ∷ R) earlier before q s i = go (λ f. leading_true R (x ∷ earlier) f parts.1 s) (or_cases (eqb x s) (inside R s) i)
    where
      parts : (list_any (λ p. eqb p.state x && (not (idle (turn m p)) || inside earlier p.branch.next)) (places sh) ≡ true) × (leading m (places sh) (x ∷ earlier) R ≡ true)
      parts = and_parts (list_any (λ p. eqb p.state x && (not (idle (turn m p)) || inside earlier p.branch.next)) (places sh)) (leading m (places sh) (x ∷ earlier) R) q

      first : Reaches sh m x
      first =
          let a = any_true (λ p. eqb p.state x && (not (idle (turn m p)) || inside earlier p.branch.next)) (places sh) parts.0 in
          let p : Place = a.0 in
          let y = and_parts (eqb p.state x) (not (idle (turn m p)) || inside earlier p.branch.next) a.2 in
          pick p (has_from_listed sh p a.1) (eqb-true p.state x y.0) (or_cases (not (idle (turn m p))) (inside earlier p.branch.next) y.1)
        where
          acting : (p : Place) → Has sh p → p.state ≡ x → not (idle (turn m p)) ≡ true → Asked m p → Reaches sh m x
          acting p hp e r (asked a t) = now a (p.branch.next, record { place = p; has = hp; at = e; acts = t; leads = refl })
          acting p hp e r (unasked t) = absurd (false≢true (sym (ap (λ (z : List Action). not (idle z)) t) ∙ r))

          pick : (p : Place) → Has sh p → p.state ≡ x → (not (idle (turn m p)) ≡ true) ⊎ (inside earlier p.branch.next ≡ true) → Reaches sh m x
          pick p hp e (inl r) = acting p hp e r (ask m p)
          pick p hp e (inr r) = later p hp e (before p.branch.next r)

      go : (((t : ℕ) → In (x ∷ earlier) t → Reaches sh m t) → In R s → Reaches sh m s) → (eqb x s ≡ true) ⊎ (inside R s ≡ true) → Reaches sh m s
      go rec (inl r) = subst (Reaches sh m) (eqb-true x s r) first
      go rec (inr r) = rec more r
        where
          more : (t : ℕ) → In (x ∷ earlier) t → Reaches sh m t
          more t j = pick (or_cases (eqb x t) (inside earlier t) j)
            where
              pick : (eqb x t ≡ true) ⊎ (inside earlier t ≡ true) → Reaches sh m t
              pick (inl e) = subst (Reaches sh m) (eqb-true x t e) first
              pick (inr e) = before t e

  module _ (reach : List ℕ) (leads : leading m (places sh) [] reach ≡ true) where
    told_true : (X : List ℕ) → told m (places sh) reach X ≡ true → (s : ℕ) → In X s → (a : Action) → Acts sh m s a → Told sh m (In X)
    told_true X q s x a i t y = go (or_cases (list_all (λ p. if_so (inside X p.state) (idle (turn m p))) (places sh)) (list_all (inside reach) X) q)
      where
        go : (list_all (λ p. if_so (inside X p.state) (idle (turn m p))) (places sh) ≡ true) ⊎ (list_all (inside reach) X ≡ true) → Reaches sh m t
        go (inl r) =
            let p : Place = i.1.place in
            let e = every_true (λ p. if_so (inside X p.state) (idle (turn m p))) (places sh) r p (listed_from_has sh p i.1.has) in
            let z = idle_true (turn m p) (if_true (inside X p.state) (idle (turn m p)) e (subst (In X) (sym i.1.at) x)) in
            absurd cc
        go (inr r) =
            let z = any_true (λ u. eqb u t) X y in
            let w = every_true (inside reach) X r z.0 z.1 in
            leading_true reach [] (λ u j. absurd (false≢true j)) leads t (subst (In reach) (eqb-true z.0 t z.2) w)

    sound_true : (sets : List (List ℕ)) (X : List ℕ) → good m (places sh) reach sets X ≡ true → Sound sh m (In X)
    sound_true sets X q =
        let u = and_parts (points m (places sh) X) (told m (places sh) reach X && closes m (places sh) sets X) q in
        let v = and_parts (told m (places sh) reach X) (closes m (places sh) sets X) u.1 in
        record {
          one_side = λ s t x y a b i j. let w = tests X u.0 s t x y a b i j in (w.0, w.1);
          same_offer = λ s t x y a b i j w. offers X u.0 s t x y a b i j w;
          no_clash = λ s t x y a b i j w l. clashes X u.0 s t x y a b i j l;
          told = told_true X v.0;
        }

    next_true : (sets : List (List ℕ)) (X : List ℕ) → good m (places sh) reach sets X ≡ true → (l t : ℕ) → Led sh m (In X) l t → (Y : List ℕ) × Memᴰ Y sets × ((s : ℕ) → Decides (inside Y s) (Successor sh m (In X) l s))
    next_true sets X q l t x =
        let u = and_parts (points m (places sh) X) (told m (places sh) reach X && closes m (places sh) sets X) q in
        let v = and_parts (told m (places sh) reach X) (closes m (places sh) sets X) u.1 in
        let p : Place = x.step.place in
        let e = every_true (λ p. if_so (inside X p.state) (list_all (λ a. list_any (follows m (places sh) X a.label) sets) (turn m p))) (places sh) v.1 p (listed_from_has sh p x.step.has) in
        let f = if_true (inside X p.state) (list_all (λ a. list_any (follows m (places sh) X a.label) sets) (turn m p)) e (subst (In X) (sym x.step.at) x.inside) in
        let g : list_any (follows m (places sh) X x.action.label) sets ≡ true = every_asked m p x.action x.step.acts (λ a. list_any (follows m (places sh) X a.label) sets) f in
        let h : list_any (follows m (places sh) X l) sets ≡ true = subst (λ (k : ℕ). list_any (follows m (places sh) X k) sets ≡ true) x.labelled g in
        let r = any_true (follows m (places sh) X l) sets h in
        (r.0, r.1, follows_true X l r.0 r.2)

pub part_true : (sh : Sheet) (m : ℕ) (reach : List ℕ) (sets : List (List ℕ)) → part_of sh m reach sets ≡ true → HasPart sh m
part_true sh m reach [] q = absurd (false≢true q)
part_true sh m reach (X ∷ sets) q =
    found_part sh m (map inside (X ∷ sets)) found (rw (length-map (X ∷ sets) inside) (leb-true (length (X ∷ sets)) 32 c.0))
  where
    a : (starts m (places sh) X ≡ true) × ((leading m (places sh) [] reach && (leb (length (X ∷ sets)) 32 && list_all (good m (places sh) reach (X ∷ sets)) (X ∷ sets))) ≡ true)
    a = and_parts (starts m (places sh) X) (leading m (places sh) [] reach && (leb (length (X ∷ sets)) 32 && list_all (good m (places sh) reach (X ∷ sets)) (X ∷ sets))) q

    b : (leading m (places sh) [] reach ≡ true) × ((leb (length (X ∷ sets)) 32 && list_all (good m (places sh) reach (X ∷ sets)) (X ∷ sets)) ≡ true)
    b = and_parts (leading m (places sh) [] reach) (leb (length (X ∷ sets)) 32 && list_all (good m (places sh) reach (X ∷ sets)) (X ∷ sets)) a.1

    c : (leb (length (X ∷ sets)) 32 ≡ true) × (list_all (good m (places sh) reach (X ∷ sets)) (X ∷ sets) ≡ true)
    c = and_parts (leb (length (X ∷ sets)) 32) (list_all (good m (places sh) reach (X ∷ sets)) (X ∷ sets)) b.1

    within : (i : ℕ) → i < length (map inside (X ∷ sets)) → i < length (X ∷ sets)
    within i l = let n = length-map (X ∷ sets) inside in omega arith

    good_at : (i : ℕ) → i < length (map inside (X ∷ sets)) → good m (places sh) reach (X ∷ sets) (get_or (X ∷ sets) i []) ≡ true
    good_at i l = every_true (good m (places sh) reach (X ∷ sets)) (X ∷ sets) c.1 (get_or (X ∷ sets) i []) (member_at (X ∷ sets) [] i (within i l))

    found : Found sh m (map inside (X ∷ sets))
    found = record {
      any = omega arith;
      first = starts_true sh m X a.0;
      sound = λ i l. subst (λ (f : ℕ → Bool). Sound sh m (λ s. f s ≡ true)) (sym (get_or-map inside (X ∷ sets) i [])) (sound_true sh m reach b.0 (X ∷ sets) (get_or (X ∷ sets) i []) (good_at i l));
      next = next;
    }
      where
        next : (i : ℕ) → i < length (map inside (X ∷ sets)) → (l t : ℕ) → Led sh m (Of (map inside (X ∷ sets)) i) l t → (j : ℕ) × (j < length (map inside (X ∷ sets))) × Is (map inside (X ∷ sets)) j (Successor sh m (Of (map inside (X ∷ sets)) i) l)
        next i n l t x =
            let Y : List ℕ = get_or (X ∷ sets) i [] in
            let x' : Led sh m (In Y) l t = subst (λ (f : ℕ → Bool). Led sh m (λ s. f s ≡ true) l t) (get_or-map inside (X ∷ sets) i []) x in
            let r = next_true sh m reach b.0 (X ∷ sets) Y (good_at i n) l t x' in
            let k = index_of (X ∷ sets) [] r.0 r.1 in
            let e : get_or (map inside (X ∷ sets)) k.0 (λ _. false) ≡ inside r.0 = get_or-map inside (X ∷ sets) k.0 [] ∙ ap inside k.2 in (
              k.0,
              (let z = length-map (X ∷ sets) inside in let w : k.0 < length (X ∷ sets) = k.1 in omega arith),
              λ s. subst (λ (f : ℕ → Bool). Decides (f s) (Successor sh m (Of (map inside (X ∷ sets)) i) l s)) (sym e)
                  (subst (λ (f : ℕ → Bool). Decides (inside r.0 s) (Successor sh m (λ s. f s ≡ true) l s)) (sym (get_or-map inside (X ∷ sets) i [])) (r.2 s)),
            )
