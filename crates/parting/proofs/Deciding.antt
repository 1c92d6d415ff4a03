-- The tests of judging decide the points of soundness.
use Rattle.std.proofs.Common.{◌≡◌, ℕ, ◌<◌, Bool, true, false, ◌&&◌, eqb, ◌⊎◌, List, [], ◌∷◌, get_or, Some, None, Decides, Option, sym, refl, ap, ◌∙◌, subst, inl, inr, arith}
use mathlib.Core.Bool.{beq}
use mathlib.Core.List.{Memᴰ}
use Rattle.std.specs.List.{All, list_all, range_with_len}
use Rattle.std.proofs.lemmas.List.FromFn.{get_or-range_with_len, length-range_with_len}
use Rattle.std.proofs.lemmas.Bool.{cases_Bool, eq-eqb, eqb-true, or_cases, or_left, or_right, false≢true, both_ways, cond-true, cond-false}
use Rattle.std.proofs.lemmas.Bool.Decides.{Decides-eqb, Decides-and, Decides-like, Decides-by_and, same_from_decides}
use Rattle.protocol.specs.Actions as meant
use Rattle.protocol.specs.Actions.{Action, Timing, turn}
use Rattle.parting.specs.declared.act.Act.{Act}
use Rattle.parting.specs.declared.act.Way.{Way}
use Rattle.parting.specs.declared.act.Way.TheVariants.{Sends, Receives}
use Rattle.parting.specs.Masks.{has, In}
use Rattle.parting.specs.View.{way_of, action_of}
use Rattle.parting.specs.Judge.{every_below, sends, is_same_side, is_one_sided, first_with, is_same_timing, agrees, unclashed, labels_of_state, offers, is_same_labels}
use Rattle.parting.proofs.Bits.{has_none}
use Rattle.parting.proofs.Gathering.{gather_to, gathered, gather_none, every_decides}
use Rattle.parting.proofs.Same.{same_masks}

-- ways, timings
beq_decides : (a b : Bool) → Decides (beq a b) (a ≡ b)
beq_decides true true = (λ _. refl, λ _. refl)
beq_decides true false = (λ q. sym q, λ q. sym q)
beq_decides false true = (λ q. q, λ q. q)
beq_decides false false = (λ _. refl, λ _. refl)

way_same : (v w : Way) → sends v ≡ sends w → way_of v ≡ way_of w
way_same Sends Sends e = refl
way_same Sends Receives e = absurd (false≢true (sym e))
way_same Receives Sends e = absurd (false≢true e)
way_same Receives Receives e = refl

pub same_way : (v w : Way) → way_of v ≡ way_of w → sends v ≡ sends w
same_way Sends Sends e = refl
same_way Sends Receives e = absurd cc
same_way Receives Sends e = absurd cc
same_way Receives Receives e = refl

pub way_sends : (v : Way) → way_of v ≡ meant.sends → sends v ≡ true
way_sends Sends e = refl
way_sends Receives e = absurd cc

pub sends_way : (v : Way) → sends v ≡ true → way_of v ≡ meant.sends
sends_way Sends e = refl
sends_way Receives e = absurd (false≢true e)

pub way_receives : (v : Way) → way_of v ≡ meant.receives → sends v ≡ false
way_receives Sends e = absurd cc
way_receives Receives e = refl

pub receives_way : (v : Way) → sends v ≡ false → way_of v ≡ meant.receives
receives_way Sends e = absurd (false≢true (sym e))
receives_way Receives e = refl

abbrev pub Sided : Act → Act → Type 0
Sided a b = ((action_of a).way ≡ (action_of b).way) × (a.partner ≡ b.partner)

side_decides : (a b : Act) → Decides (is_same_side a b) (Sided a b)
unfolding is_same_side
side_decides a b = Decides-and (beq (sends a.way) (sends b.way)) (eqb a.partner b.partner)
    (Decides-like (beq (sends a.way) (sends b.way)) (way_same a.way b.way) (same_way a.way b.way) (beq_decides (sends a.way) (sends b.way)))
    (Decides-eqb a.partner b.partner)

abbrev pub Timed : Act → Act → Type 0
Timed a b = (action_of a).timing ≡ (action_of b).timing

timing_from : (a b : Act) → (a.row ≡ b.row) × (a.reset ≡ b.reset) → Timed a b
timing_from a b e = let p = e.0 in let q = e.1 in cc

timing_decides : (a b : Act) → Decides (is_same_timing a b) (Timed a b)
unfolding is_same_timing
timing_decides a b = Decides-like (eqb a.row b.row && beq a.reset b.reset) (timing_from a b) (λ e. (ap (λ (t : Timing). t.row) e, ap (λ (t : Timing). t.reset) e))
    (Decides-and (eqb a.row b.row) (beq a.reset b.reset) (Decides-eqb a.row b.row) (beq_decides a.reset b.reset))

-- of any two acts of a list
abbrev pub Pairs : List Act → (Act → Act → Type 0) → Type 0
Pairs xs P = (x : Act) → Memᴰ x xs → (y : Act) → Memᴰ y xs → P x y

pub one_from : (xs : List Act) → is_one_sided xs ≡ true → Pairs xs Sided
one_from [] e x i y j = elim i [ ]
one_from (h ∷ t) e x i y j =
    let d = (every_decides (is_same_side h) (Sided h) (side_decides h) (h ∷ t)).0 e in
    let p = d x i in
    let q = d y j in
    (sym p.0 ∙ q.0, sym p.1 ∙ q.1)

pub one_to : (xs : List Act) → Pairs xs Sided → is_one_sided xs ≡ true
one_to [] p = refl
one_to (h ∷ t) p = (every_decides (is_same_side h) (Sided h) (side_decides h) (h ∷ t)).1 (λ x i. p h (Memᴰ.head refl) x i)

-- the first act with a label
pub first_act : (l : ℕ) (xs : List Act) (f : Act) → first_with l xs ≡ Some f → Memᴰ f xs × (f.label ≡ l)
first_act l [] f e = absurd cc
first_act l (x ∷ xs) f e = go (λ q. first_act l xs f q) (cases_Bool (eqb x.label l))
  where
    go : (first_with l xs ≡ Some f → Memᴰ f xs × (f.label ≡ l)) → (eqb x.label l ≡ true) ⊎ (eqb x.label l ≡ false) → Memᴰ f (x ∷ xs) × (f.label ≡ l)
    go below (inl t) =
        let q : ◌≡◌ {A = Option Act} (Some x) (Some f) = sym (cond-true (eqb x.label l) (Some x) (first_with l xs) t) ∙ e in
        let s : f ≡ x = cc in
        (Memᴰ.head s, ap (λ (a : Act). a.label) s ∙ eqb-true x.label l t)
    go below (inr t) = let r = below (sym (cond-false (eqb x.label l) (Some x) (first_with l xs) t) ∙ e) in (Memᴰ.tail r.0, r.1)

pub first_found : (l : ℕ) (xs : List Act) (x : Act) → Memᴰ x xs → x.label ≡ l → (f : Act) × (first_with l xs ≡ Some f)
first_found l [] x i e = elim i [ ]
first_found l (y ∷ xs) x i e = go (λ j. first_found l xs x j e) (cases_Bool (eqb y.label l)) i
  where
    Out : Type 0
    Out = (f : Act) × (first_with l (y ∷ xs) ≡ Some f)

    go : (Memᴰ x xs → (f : Act) × (first_with l xs ≡ Some f)) → (eqb y.label l ≡ true) ⊎ (eqb y.label l ≡ false) → Memᴰ x (y ∷ xs) → Out
    go below (inl t) i = (y, cond-true (eqb y.label l) (Some y) (first_with l xs) t)
    go below (inr t) (Memᴰ.head q) = absurd (both_ways (eqb y.label l) t (eq-eqb y.label l (ap (λ (a : Act). a.label) (sym q) ∙ e)))
    go below (inr t) (Memᴰ.tail j) = let r = below j in (r.0, cond-false (eqb y.label l) (Some y) (first_with l xs) t ∙ r.1)

abbrev pub Alike : Act → Act → Type 0
Alike x y = x.label ≡ y.label → Timed x y

abbrev Agreed : List Act → Act → Type 0
Agreed xs x = (f : Act) → first_with x.label xs ≡ Some f → Timed f x

agrees_decides : (xs : List Act) (x : Act) → Decides (agrees (first_with x.label xs) x) (Agreed xs x)
agrees_decides xs x = go (first_with x.label xs) refl
  where
    go : (o : Option Act) → first_with x.label xs ≡ o → Decides (agrees (first_with x.label xs) x) (Agreed xs x)
    go None e = (λ _ f q. absurd cc, λ _. ap (λ o. agrees o x) e)
    go (Some g) e =
        let d = timing_decides g x in
        (λ q f r. let s : g ≡ f = cc in subst (λ z. Timed z x) s (d.0 (sym (ap (λ o. agrees o x) e) ∙ q)), λ a. ap (λ o. agrees o x) e ∙ d.1 (a g e))

pub unclashed_from : (xs : List Act) → unclashed xs ≡ true → Pairs xs Alike
unclashed_from xs e x i y j l =
    let d = (every_decides (λ a. agrees (first_with a.label xs) a) (Agreed xs) (agrees_decides xs) xs).0 e in
    let f = first_found x.label xs x i refl in
    sym (d x i f.0 f.1) ∙ d y j f.0 (ap (λ k. first_with k xs) (sym l) ∙ f.1)

pub unclashed_to : (xs : List Act) → Pairs xs Alike → unclashed xs ≡ true
unclashed_to xs p = (every_decides (λ a. agrees (first_with a.label xs) a) (Agreed xs) (agrees_decides xs) xs).1
    (λ x i f e. let r = first_act x.label xs f e in p f r.0 x i r.1)

-- the labels of a state
abbrev pub Labelled : List Act → ℕ → ℕ → Type 0
Labelled xs s l = (x : Act) × Memᴰ x xs × (x.state ≡ s) × (x.label ≡ l)

labels_from : (s : ℕ) (xs : List Act) (l : ℕ) → In (labels_of_state s xs) l → Labelled xs s l
labels_from s xs l h = let r = gathered (λ (a : Act). eqb a.state s) (λ a. a.label) xs l h in (r.0, r.1, eqb-true r.0.state s r.2, r.3)

labels_to : (s : ℕ) (xs : List Act) (x : Act) → Memᴰ x xs → x.state ≡ s → In (labels_of_state s xs) x.label
labels_to s xs x i e = gather_to (λ (a : Act). eqb a.state s) (λ a. a.label) 0 xs x i (eq-eqb x.state s e)

passing : (test : ℕ → Bool) (xs : List ℕ) → Decides (list_all test xs) (All (λ k. test k ≡ true) xs)
passing test xs = Decides-by_and test (λ k. test k ≡ true) (list_all test) (λ k. (λ e. e, λ e. e)) refl (λ _ _. refl) xs

pub below_from : (test : ℕ → Bool) (n : ℕ) → every_below test n ≡ true → (k : ℕ) → k < n → test k ≡ true
below_from test n e k h =
    let at : get_or (range_with_len 0 n) k 0 ≡ k = omega (arith, get_or-range_with_len 0 n k 0 h) in
    subst (λ j. test j ≡ true) at ((passing test (range_with_len 0 n)).0 e k 0 (omega (arith, h, length-range_with_len 0 n)))

pub below_to : (test : ℕ → Bool) (n : ℕ) → ((k : ℕ) → k < n → test k ≡ true) → every_below test n ≡ true
below_to test n f = (passing test (range_with_len 0 n)).1 (λ k d h.
    let l : k < n = omega (arith, h, length-range_with_len 0 n) in
    let at : k ≡ get_or (range_with_len 0 n) k d = omega (arith, get_or-range_with_len 0 n k d l) in
    subst (λ j. test j ≡ true) at (f k l))

-- the same labels wherever it acts
no_label : (s : ℕ) (xs : List Act) → labels_of_state s xs ≡ 0 → (x : Act) → Memᴰ x xs → x.state ≡ s → ⊥
no_label s xs e x i q = false≢true (sym (has_none x.label) ∙ ap (λ m. has m x.label) (sym e) ∙ labels_to s xs x i q)

offers_from : (h : ℕ) (xs : List Act) (s : ℕ) → offers (labels_of_state h xs) xs s ≡ true → (x : Act) → Memᴰ x xs → x.state ≡ s → labels_of_state s xs ≡ labels_of_state h xs
unfolding offers
offers_from h xs s e x i q = go (or_cases (eqb (labels_of_state s xs) 0) (eqb (labels_of_state s xs) (labels_of_state h xs)) e)
  where
    go : (eqb (labels_of_state s xs) 0 ≡ true) ⊎ (eqb (labels_of_state s xs) (labels_of_state h xs) ≡ true) → labels_of_state s xs ≡ labels_of_state h xs
    go (inl z) = absurd (no_label s xs (eqb-true (labels_of_state s xs) 0 z) x i q)
    go (inr z) = eqb-true (labels_of_state s xs) (labels_of_state h xs) z

abbrev pub Found : List Act → Act → Act → Type 0
Found xs x y = Labelled xs y.state x.label

pub same_labels_from : (h : Act) (xs : List Act) → Memᴰ h xs → ((x : Act) → Memᴰ x xs → x.state < 64) → is_same_labels h.state xs ≡ true → Pairs xs (Found xs)
same_labels_from h xs k small e x i y j =
    let all = below_from (offers (labels_of_state h.state xs) xs) 64 e in
    let lx = offers_from h.state xs x.state (all x.state (small x i)) x i refl in
    let ly = offers_from h.state xs y.state (all y.state (small y j)) y j refl in
    labels_from y.state xs x.label (ap (λ m. has m x.label) (ly ∙ sym lx) ∙ labels_to x.state xs x i refl)

search_state : (s : ℕ) (xs : List Act) → ((x : Act) × Memᴰ x xs × (x.state ≡ s)) ⊎ ((x : Act) → Memᴰ x xs → eqb x.state s ≡ false)
search_state s [] = inr (λ x i. elim i [ ])
search_state s (y ∷ xs) = go (cases_Bool (eqb y.state s)) (search_state s xs)
  where
    none : eqb y.state s ≡ false → ((x : Act) → Memᴰ x xs → eqb x.state s ≡ false) → (x : Act) → Memᴰ x (y ∷ xs) → eqb x.state s ≡ false
    none n r x (Memᴰ.head q) = ap (λ (a : Act). eqb a.state s) q ∙ n
    none n r x (Memᴰ.tail i) = r x i

    go : (eqb y.state s ≡ true) ⊎ (eqb y.state s ≡ false) → ((x : Act) × Memᴰ x xs × (x.state ≡ s)) ⊎ ((x : Act) → Memᴰ x xs → eqb x.state s ≡ false)
        → ((x : Act) × Memᴰ x (y ∷ xs) × (x.state ≡ s)) ⊎ ((x : Act) → Memᴰ x (y ∷ xs) → eqb x.state s ≡ false)
    go (inl t) r = inl (y, Memᴰ.head refl, eqb-true y.state s t)
    go (inr n) (inl r) = inl (r.0, Memᴰ.tail r.1, r.2)
    go (inr n) (inr r) = inr (none n r)

pub same_labels_to : (h : Act) (xs : List Act) → Memᴰ h xs → Pairs xs (Found xs) → is_same_labels h.state xs ≡ true
unfolding offers
same_labels_to h xs k p = below_to (offers (labels_of_state h.state xs) xs) 64 (λ s _. go s (search_state s xs))
  where
    there : (s : ℕ) (x : Act) → Memᴰ x xs → x.state ≡ s → (l : ℕ) → In (labels_of_state s xs) l → In (labels_of_state h.state xs) l
    there s x i q l a =
        let r = labels_from s xs l a in
        let f = p r.0 r.1 h k in
        subst (In (labels_of_state h.state xs)) (f.3 ∙ r.3) (labels_to h.state xs f.0 f.1 f.2)

    back : (s : ℕ) (x : Act) → Memᴰ x xs → x.state ≡ s → (l : ℕ) → In (labels_of_state h.state xs) l → In (labels_of_state s xs) l
    back s x i q l a =
        let r = labels_from h.state xs l a in
        let f = p r.0 r.1 x i in
        subst (In (labels_of_state s xs)) (f.3 ∙ r.3) (labels_to s xs f.0 f.1 (f.2 ∙ q))

    go : (s : ℕ) → ((x : Act) × Memᴰ x xs × (x.state ≡ s)) ⊎ ((x : Act) → Memᴰ x xs → eqb x.state s ≡ false) → offers (labels_of_state h.state xs) xs s ≡ true
    go s (inl r) =
        or_right (eqb (labels_of_state s xs) 0) _ (eq-eqb _ _
        (same_masks (labels_of_state s xs) (labels_of_state h.state xs) (λ l. same_from_decides _ _ (λ e. e, λ e. e) (back s r.0 r.1 r.2 l, there s r.0 r.1 r.2 l))))
    go s (inr n) = or_left _ _ (eq-eqb _ _ (gather_none (λ (a : Act). eqb a.state s) (λ a. a.label) 0 xs n))
