-- One event more: ticks, roles, channels and what waits in them.
use Rattle.std.proofs.Common.{◌≡◌, ℕ, ◌+◌, ◌-◌, ◌<◌, ◌≤◌, false, ◌&&◌, eqb, ◌⊎◌, List, [], ◌∷◌, ◌++◌, map, length, drop, sym, refl, ap, ◌∙◌, subst, ap₂, inl, inr, append_assoc, append-nil, arith, length-append}
use mathlib.Core.List.{append_cancel_left, map-append, map-map}
use lib.ListN.{length-map}
use Rattle.std.specs.List.{AllByRecursion}
use Rattle.std.proofs.lemmas.List.{drop_at, drop-drop, drop-append-le, drop-map, length-drop}
use Rattle.std.proofs.lemmas.Bool.{cond-true, cond-false, eq-eqb, ne_eqb, cases_eq, and_from, and_left, and_right}
use Rattle.protocol.specs.Actions.{Way, sends, receives}
use Rattle.events.specs.declared.event.Event.{Event}
use Rattle.runs.specs.Events.{direction_of, sent, taken, label_of, labels}
use Rattle.runs.specs.Run.{Rising, InOrder, Channels}
use Rattle.events.specs.declared.message.Message.{Message}
use Rattle.runs.specs.Waiting.{message, waiting}
use Rattle.runs.specs.Monitor.{channel_after}
use Rattle.runs.specs.Stands.{last_tick}
use Rattle.runs.proofs.Own.{along_partner, not_taking, not_sending, more_hit, more_none, more_other}

-- Ticks.
pub rising_push : (o : ℕ) (es : List Event) (e : Event) → Rising o es → last_tick o es ≤ e.tick → Rising o (es ++ (e ∷ []))
rising_push o [] e r l = (l, tt)
rising_push o (x ∷ es) e r l = (r.0, rising_push x.tick es e r.1 l)

pub rising_last : (o : ℕ) (es : List Event) (e : Event) → Rising o (es ++ (e ∷ [])) → last_tick o es ≤ e.tick
rising_last o [] e r = r.0
rising_last o (x ∷ es) e r = rising_last x.tick es e r.1

pub last_tick_push : (o : ℕ) (es : List Event) (e : Event) → last_tick o (es ++ (e ∷ [])) ≡ e.tick
last_tick_push o [] e = refl
last_tick_push o (x ∷ es) e = last_tick_push x.tick es e

pub rising_front : (o : ℕ) (front back : List Event) → Rising o (front ++ back) → Rising o front
rising_front o [] back r = tt
rising_front o (x ∷ front) back r = (r.0, rising_front x.tick front back r.1)

-- Roles.
pub all_last : (P : Event → Type 0) (es : List Event) (e : Event) → AllByRecursion P (es ++ (e ∷ [])) → P e
all_last P [] e k = k.0
all_last P (x ∷ es) e k = all_last P es e k.1

pub all_front : (P : Event → Type 0) (front back : List Event) → AllByRecursion P (front ++ back) → AllByRecursion P front
all_front P [] back k = tt
all_front P (x ∷ front) back k = (k.0, all_front P front back k.1)

-- Channels: what an event does to the channel from a to b.
pub data Touches (w : Way) (e : Event) (a b : ℕ) : Type 0 where
  longer : w ≡ sends → a ≡ e.role → b ≡ e.partner → Touches w e a b
  shorter : w ≡ receives → a ≡ e.partner → b ≡ e.role → Touches w e a b
  untouched : ((es : List Event) → sent a b (es ++ (e ∷ [])) ≡ sent a b es) → ((es : List Event) → taken a b (es ++ (e ∷ [])) ≡ taken a b es) →
      ((channel : ℕ → ℕ → List Message) → channel_after channel e w a b ≡ channel a b) → Touches w e a b

pub after_longer : (channel : ℕ → ℕ → List Message) (e : Event) (a b : ℕ) → a ≡ e.role → b ≡ e.partner → channel_after channel e sends a b ≡ channel a b ++ (message e ∷ [])
after_longer channel e a b x y = cond-true (eqb a e.role && eqb b e.partner) (channel a b ++ (message e ∷ [])) (channel a b) (and_from (eqb a e.role) (eqb b e.partner) (eq-eqb a e.role x) (eq-eqb b e.partner y))

pub after_shorter : (channel : ℕ → ℕ → List Message) (e : Event) (a b : ℕ) → a ≡ e.partner → b ≡ e.role → channel_after channel e receives a b ≡ drop 1 (channel a b)
after_shorter channel e a b x y = cond-true (eqb a e.partner && eqb b e.role) (drop 1 (channel a b)) (channel a b) (and_from (eqb a e.partner) (eqb b e.role) (eq-eqb a e.partner x) (eq-eqb b e.role y))

pub touches : (w : Way) (e : Event) → e.direction ≡ direction_of w → (a b : ℕ) → Touches w e a b
touches sends e d a b = go (cases_eq a e.role) (cases_eq b e.partner)
  where
    keeps : (eqb a e.role && eqb b e.partner) ≡ false → (channel : ℕ → ℕ → List Message) → channel_after channel e sends a b ≡ channel a b
    keeps q channel = cond-false (eqb a e.role && eqb b e.partner) (channel a b ++ (message e ∷ [])) (channel a b) q

    takes_none : (es : List Event) → taken a b (es ++ (e ∷ [])) ≡ taken a b es
    takes_none es = more_none receives a es e (not_taking a e d) b

    go : (a ≡ e.role) ⊎ (a ≡ e.role → ⊥) → (b ≡ e.partner) ⊎ (b ≡ e.partner → ⊥) → Touches sends e a b
    go (inl x) (inl y) = longer refl x y
    go (inl x) (inr n) = untouched (λ es. more_none sends b es e (along_partner sends b e (λ h. n (sym h))) a) takes_none (keeps (and_right (eqb a e.role) (eqb b e.partner) (ne_eqb b e.partner n)))
    go (inr n) y = untouched (λ es. more_other sends b es e a n) takes_none (keeps (and_left (eqb a e.role) (eqb b e.partner) (ne_eqb a e.role n)))
touches receives e d a b = go (cases_eq a e.partner) (cases_eq b e.role)
  where
    keeps : (eqb a e.partner && eqb b e.role) ≡ false → (channel : ℕ → ℕ → List Message) → channel_after channel e receives a b ≡ channel a b
    keeps q channel = cond-false (eqb a e.partner && eqb b e.role) (drop 1 (channel a b)) (channel a b) q

    sends_none : (es : List Event) → sent a b (es ++ (e ∷ [])) ≡ sent a b es
    sends_none es = more_none sends b es e (not_sending b e d) a

    go : (a ≡ e.partner) ⊎ (a ≡ e.partner → ⊥) → (b ≡ e.role) ⊎ (b ≡ e.role → ⊥) → Touches receives e a b
    go (inl x) (inl y) = shorter refl x y
    go (inl x) (inr n) = untouched sends_none (λ es. more_other receives a es e b n) (keeps (and_right (eqb a e.partner) (eqb b e.role) (ne_eqb b e.role n)))
    go (inr n) y = untouched sends_none (λ es. more_none receives a es e (along_partner receives a e (λ h. n (sym h))) b) (keeps (and_left (eqb a e.partner) (eqb b e.role) (ne_eqb a e.partner n)))

-- a channel after the event hangs on that channel alone
pub after_like : (f g : ℕ → ℕ → List Message) (e : Event) (w : Way) (a b : ℕ) → f a b ≡ g a b → channel_after f e w a b ≡ channel_after g e w a b
after_like f g e sends a b q = rw q
after_like f g e receives a b q = rw q

-- What waits.
abbrev pub texts : List Message → List ℕ
texts ms = map (λ (x : Message). x.label) ms

pub waiting_length : (a b : ℕ) (es : List Event) → length (waiting a b es) ≡ length (sent a b es) - length (taken a b es)
unfolding waiting
waiting_length a b es = length-drop (length (taken a b es)) (map message (sent a b es)) ∙ ap (λ (n : ℕ). n - length (taken a b es)) (length-map (sent a b es) message)

-- what was sent is what was taken and what waits
pub waiting_labels : (depth : ℕ) (a b : ℕ) (es : List Event) → InOrder depth es a b → labels (sent a b es) ≡ labels (taken a b es) ++ texts (waiting a b es)
unfolding waiting
waiting_labels depth a b es o =
    let n : ℕ = length (taken a b es) in
    let t : texts (waiting a b es) ≡ drop n (labels (sent a b es)) = sym (drop-map (λ (x : Message). x.label) n (map message (sent a b es))) ∙ ap (drop n) (map-map (λ (x : Message). x.label) message (sent a b es)) in
    let r : drop n (labels (sent a b es)) ≡ o.0.0 = ap (drop n) o.0.1 ∙ drop_at (labels (taken a b es)) o.0.0 n (length-map (taken a b es) label_of) in
    o.0.1 ∙ ap (λ (z : List ℕ). labels (taken a b es) ++ z) (sym (t ∙ r))

pub taken_fewer : (depth : ℕ) (a b : ℕ) (es : List Event) → InOrder depth es a b → length (taken a b es) ≤ length (sent a b es)
taken_fewer depth a b es o =
    let n : length (labels (sent a b es)) ≡ length (labels (taken a b es)) + length o.0.0 = ap length o.0.1 ∙ length-append (labels (taken a b es)) o.0.0 in
    omega (arith, n, length-map (sent a b es) label_of, length-map (taken a b es) label_of)

-- room for the event, in what waits
abbrev pub Fit : ℕ → List Event → Event → Way → Type 0
Fit depth es e sends = length (waiting e.role e.partner es) < depth
Fit depth es e receives = (x : Message) × (rest : List Message) × (waiting e.partner e.role es ≡ x ∷ rest) × (x.label ≡ e.label)

module _ (depth : ℕ) (es : List Event) (e : Event) (w : Way) (d : e.direction ≡ direction_of w) (ordered : (a b : ℕ) → InOrder depth es a b) where
  -- what waits after the event
  pub waiting_step : (a b : ℕ) → waiting a b (es ++ (e ∷ [])) ≡ channel_after (λ a b. waiting a b es) e w a b
  unfolding waiting
  waiting_step a b = go (touches w e d a b)
    where
      go : Touches w e a b → waiting a b (es ++ (e ∷ [])) ≡ channel_after (λ a b. waiting a b es) e w a b
      go (untouched s t c) = ap₂ (λ (x y : List Event). drop (length y) (map message x)) (s es) (t es) ∙ sym (c (λ a b. waiting a b es))
      go (longer q x y) =
          let dir : e.direction ≡ direction_of sends = d ∙ ap direction_of q in
          let s : sent a b (es ++ (e ∷ [])) ≡ sent a b es ++ (e ∷ []) = more_hit sends b es e dir (sym y) a x in
          let t : taken a b (es ++ (e ∷ [])) ≡ taken a b es = more_none receives a es e (not_taking a e dir) b in
          let n : ℕ = length (taken a b es) in
          let fewer : n ≤ length (map message (sent a b es)) = rw (length-map (sent a b es) message) (taken_fewer depth a b es (ordered a b)) in
          ap₂ (λ (x y : List Event). drop (length y) (map message x)) s t
          ∙ ap (drop n) (map-append message (sent a b es) (e ∷ []))
          ∙ drop-append-le n (map message (sent a b es)) (message e ∷ []) fewer
          ∙ sym (rw q (after_longer (λ a b. waiting a b es) e a b x y))
      go (shorter q x y) =
          let dir : e.direction ≡ direction_of receives = d ∙ ap direction_of q in
          let s : sent a b (es ++ (e ∷ [])) ≡ sent a b es = more_none sends b es e (not_sending b e dir) a in
          let t : taken a b (es ++ (e ∷ [])) ≡ taken a b es ++ (e ∷ []) = more_hit receives a es e dir (sym x) b y in
          let n : length (taken a b (es ++ (e ∷ []))) ≡ length (taken a b es) + 1 = ap length t ∙ length-append (taken a b es) (e ∷ []) in
          ap₂ (λ (x : List Event) (k : ℕ). drop k (map message x)) s n
          ∙ sym (drop-drop 1 (length (taken a b es)) (map message (sent a b es)))
          ∙ sym (rw q (after_shorter (λ a b. waiting a b es) e a b x y))

  -- an event that finds room keeps the channels in order
  pub in_order_step : Fit depth es e w → (a b : ℕ) → InOrder depth (es ++ (e ∷ [])) a b
  in_order_step room a b = go (touches w e d a b)
    where
      go : Touches w e a b → InOrder depth (es ++ (e ∷ [])) a b
      go (untouched s t c) = rw (s es, t es) (ordered a b)
      go (longer q x y) =
          let dir : e.direction ≡ direction_of sends = d ∙ ap direction_of q in
          let s : sent a b (es ++ (e ∷ [])) ≡ sent a b es ++ (e ∷ []) = more_hit sends b es e dir (sym y) a x in
          let t : taken a b (es ++ (e ∷ [])) ≡ taken a b es = more_none receives a es e (not_taking a e dir) b in
          let r : length (waiting e.role e.partner es) < depth = subst (Fit depth es e) q room in
          let r' : length (waiting a b es) < depth = rw (x, y) r in
          let o = ordered a b in (
            (o.0.0 ++ (e.label ∷ []), ap labels s ∙ map-append label_of (sent a b es) (e ∷ []) ∙ ap (λ (z : List ℕ). z ++ (e.label ∷ [])) o.0.1 ∙ append_assoc (labels (taken a b es)) o.0.0 (e.label ∷ []) ∙ ap (λ (z : List Event). labels z ++ (o.0.0 ++ (e.label ∷ []))) (sym t)),
            (let n : length (sent a b (es ++ (e ∷ []))) ≡ length (sent a b es) + 1 = ap length s ∙ length-append (sent a b es) (e ∷ []) in omega (arith, n, ap length t, r', waiting_length a b es)),
          )
      go (shorter q x y) =
          let dir : e.direction ≡ direction_of receives = d ∙ ap direction_of q in
          let s : sent a b (es ++ (e ∷ [])) ≡ sent a b es = more_none sends b es e (not_sending b e dir) a in
          let t : taken a b (es ++ (e ∷ [])) ≡ taken a b es ++ (e ∷ []) = more_hit receives a es e dir (sym x) b y in
          let r : (x : Message) × (rest : List Message) × (waiting e.partner e.role es ≡ x ∷ rest) × (x.label ≡ e.label) = subst (Fit depth es e) q room in
          let v : waiting a b es ≡ r.0 ∷ r.1 = ap₂ (λ (i j : ℕ). waiting i j es) x y ∙ r.2 in
          let o = ordered a b in
          let u : labels (sent a b es) ≡ labels (taken a b es) ++ (e.label ∷ texts r.1) =
          waiting_labels depth a b es o ∙ ap (λ (z : List Message). labels (taken a b es) ++ texts z) v ∙ ap (λ (z : ℕ). labels (taken a b es) ++ (z ∷ texts r.1)) r.3 in (
            (texts r.1, ap labels s ∙ u ∙ sym (append_assoc (labels (taken a b es)) (e.label ∷ []) (texts r.1)) ∙ sym (ap (λ (z : List ℕ). z ++ texts r.1) (ap labels t ∙ map-append label_of (taken a b es) (e ∷ [])))),
            (let n : length (taken a b (es ++ (e ∷ []))) ≡ length (taken a b es) + 1 = ap length t ∙ length-append (taken a b es) (e ∷ []) in omega (arith, n, ap length s, o.1)),
          )

  -- channels that stay in order had room for the event
  pub fit_from : ((a b : ℕ) → InOrder depth (es ++ (e ∷ [])) a b) → Fit depth es e w
  fit_from after = go w refl
    where
      oldest : (ms : List Message) (rest : List ℕ) → texts ms ≡ e.label ∷ rest → (x : Message) × (xs : List Message) × (ms ≡ x ∷ xs) × (x.label ≡ e.label)
      oldest [] rest q = absurd cc
      oldest (x ∷ xs) rest q = (x, xs, refl, cc)

      go : (v : Way) → w ≡ v → Fit depth es e v
      go sends q =
          let dir : e.direction ≡ direction_of sends = d ∙ ap direction_of q in
          let a : ℕ = e.role in
          let b : ℕ = e.partner in
          let s : length (sent a b (es ++ (e ∷ []))) ≡ length (sent a b es) + 1 = ap length (more_hit sends b es e dir refl a refl) ∙ length-append (sent a b es) (e ∷ []) in
          let t : length (taken a b (es ++ (e ∷ []))) ≡ length (taken a b es) = ap length (more_none receives a es e (not_taking a e dir) b) in
          omega (arith, (after a b).1, s, t, taken_fewer depth a b es (ordered a b), waiting_length a b es)
      go receives q =
          let dir : e.direction ≡ direction_of receives = d ∙ ap direction_of q in
          let a : ℕ = e.partner in
          let b : ℕ = e.role in
          let o = (after a b).0 in
          let t : labels (taken a b (es ++ (e ∷ []))) ≡ labels (taken a b es) ++ (e.label ∷ []) = ap labels (more_hit receives a es e dir refl b refl) ∙ map-append label_of (taken a b es) (e ∷ []) in
          let s : labels (sent a b (es ++ (e ∷ []))) ≡ labels (sent a b es) = ap labels (more_none sends b es e (not_sending b e dir) a) in
          let u : labels (taken a b es) ++ texts (waiting a b es) ≡ labels (taken a b es) ++ (e.label ∷ o.0) =
          sym (waiting_labels depth a b es (ordered a b)) ∙ sym s ∙ o.1 ∙ ap (λ (z : List ℕ). z ++ o.0) t ∙ append_assoc (labels (taken a b es)) (e.label ∷ []) o.0 in
          oldest (waiting a b es) o.0 (append_cancel_left (labels (taken a b es)) (texts (waiting a b es)) (e.label ∷ o.0) u)

-- the whole list is one of its beginnings
pub channels_now : (depth : ℕ) (es : List Event) → Channels depth es → (a b : ℕ) → InOrder depth es a b
channels_now depth es channels = channels es [] (sym (append-nil es))

-- a beginning of a list with one more
split_push : (es : List Event) (e : Event) (front back : List Event) → es ++ (e ∷ []) ≡ front ++ back → (front ≡ es ++ (e ∷ [])) ⊎ ((rest : List Event) × (es ≡ front ++ rest))
split_push es e [] back q = inr (es, refl)
split_push [] e (x ∷ []) back q = inl cc
split_push [] e (x ∷ (y ∷ front)) back q = absurd cc
split_push (y ∷ es) e (x ∷ front) back q = go (split_push es e front back (cc))
  where
    go : (front ≡ es ++ (e ∷ [])) ⊎ ((rest : List Event) × (es ≡ front ++ rest)) → (x ∷ front ≡ (y ∷ es) ++ (e ∷ [])) ⊎ ((rest : List Event) × (y ∷ es ≡ (x ∷ front) ++ rest))
    go (inl r) = inl cc
    go (inr r) = inr (r.0, cc)

pub channels_push : (depth : ℕ) (es : List Event) (e : Event) → Channels depth es → ((a b : ℕ) → InOrder depth (es ++ (e ∷ [])) a b) → Channels depth (es ++ (e ∷ []))
channels_push depth es e channels last front back q a b = go (split_push es e front back q)
  where
    go : (front ≡ es ++ (e ∷ [])) ⊎ ((rest : List Event) × (es ≡ front ++ rest)) → InOrder depth front a b
    go (inl r) = subst (λ (z : List Event). InOrder depth z a b) (sym r) (last a b)
    go (inr r) = channels front r.0 r.1 a b

pub channels_front : (depth : ℕ) (front back : List Event) → Channels depth (front ++ back) → Channels depth front
channels_front depth front back channels g r q a b = channels g (r ++ back) (ap (λ (z : List Event). z ++ back) q ∙ append_assoc g r back) a b

pub channels_none : (depth : ℕ) → Channels depth []
channels_none depth [] back q a b = (([], refl), omega arith)
channels_none depth (x ∷ front) back q a b = absurd cc
