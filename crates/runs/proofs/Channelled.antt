-- What waits in the channels after a run, and what one event more does to it.
use Rattle.std.proofs.Common.{◌≡◌, ℕ, ◌-◌, ◌≤◌, Bool, true, false, cond, ◌&&◌, eqb, ◌≢◌, ◌⊎◌, List, [], ◌∷◌, ◌++◌, map, length, drop, sym, refl, ap, ◌∙◌, subst, inl, inr, arith}
use Rattle.std.specs.List.{AllByRecursion}
use Rattle.std.proofs.ByRecursion.{All-drop, All-map, All-append}
use Rattle.sheet.specs.Model.{Sheet}
use Rattle.protocol.specs.Actions.{Way, sends, receives, Action}
use Rattle.protocol.specs.Paths.{share}
use Rattle.events.specs.declared.event.Event.{Event}
use Rattle.runs.specs.Events.{direction_of, mine, own, along, exchanged, sent, taken}
use Rattle.runs.specs.Run.{Book, Rising, Beginning, InOrder, Run}
use Rattle.events.specs.declared.message.Message.{Message}
use Rattle.runs.specs.Waiting.{message, waiting, oldest_tick, under_way}
use Rattle.runs.specs.Monitor.{channel_after}
use Rattle.runs.specs.Stands.{last_tick}
use Rattle.runs.specs.Laws.{OneMore, Waits, ChannelsRead}
use Rattle.runs.proofs.Own.{own_push_same}
use Rattle.runs.proofs.Growth.{rising_last, Touches, longer, shorter, untouched, touches, after_longer, after_shorter, waiting_length, waiting_labels, waiting_step, Fit, fit_from, channels_now}
use Rattle.runs.proofs.Agree.{direction_small}
use Rattle.runs.proofs.Fronts.{run_front}

-- no event is later than the last
pub rising_late : (o : ℕ) (es : List Event) → Rising o es → (o ≤ last_tick o es) × AllByRecursion (λ e. e.tick ≤ last_tick o es) es
rising_late o [] r = (omega arith, tt)
rising_late o (e ∷ es) r =
    let x = rising_late e.tick es r.1 in
    let y : o ≤ e.tick = r.0 in
    (omega arith, (x.0, x.1))

-- what holds of all events holds of those that are kept
one_kept : (P : Event → Type 0) (b : Bool) (e : Event) → P e → AllByRecursion P (cond b (e ∷ []) [])
one_kept P true e p = (p, tt)
one_kept P false e p = tt

pub all_own : (P : Event → Type 0) (m : ℕ) (es : List Event) → AllByRecursion P es → AllByRecursion P (own m es)
unfolding mine
all_own P m [] k = tt
all_own P m (e ∷ es) k = All-append P (mine m e) (own m es) (one_kept P (eqb m e.role) e k.0) (all_own P m es k.1)

all_exchanged : (P : Event → Type 0) (w : Way) (n : ℕ) (es : List Event) → AllByRecursion P es → AllByRecursion P (exchanged w n es)
unfolding along
all_exchanged P w n [] k = tt
all_exchanged P w n (e ∷ es) k = All-append P (along w n e) (exchanged w n es) (one_kept P (eqb (direction_of w) e.direction && eqb n e.partner) e k.0) (all_exchanged P w n es k.1)

waiting_late : (t : ℕ) (a b : ℕ) (es : List Event) → AllByRecursion (λ e. e.tick ≤ t) es → AllByRecursion (λ (x : Message). x.tick ≤ t) (waiting a b es)
unfolding waiting
waiting_late t a b es k =
    All-drop (λ (x : Message). x.tick ≤ t) (length (taken a b es)) (map message (sent a b es))
    (All-map (λ (x : Message). x.tick ≤ t) message (sent a b es) (all_exchanged (λ e. e.tick ≤ t) sends b (own a es) (all_own (λ e. e.tick ≤ t) a es k)))

-- an event of a run sends or takes
way_of : (sh : Sheet) (book : Book) (o d : ℕ) (es : List Event) (e : Event) → Run sh book o d (es ++ (e ∷ [])) → (w : Way) × (e.direction ≡ direction_of w)
way_of sh book o d es e r = last (own e.role es) (share e.role r.path) (subst (λ (z : List Event). Beginning z (share e.role r.path)) (own_push_same e.role es e refl) (r.shares e.role))
  where
    last : (xs : List Event) (actions : List Action) → Beginning (xs ++ (e ∷ [])) actions → (w : Way) × (e.direction ≡ direction_of w)
    last [] [] b = absurd b
    last [] (a ∷ actions) b = (a.way, b.0.direction)
    last (x ∷ xs) [] b = absurd b
    last (x ∷ xs) (a ∷ actions) b = last xs actions b.1

waits : (sh : Sheet) (book : Book) (o d : ℕ) (es : List Event) → Run sh book o d es → (a b : ℕ) → Waits d es a b
waits sh book o d es r a b =
    let n = channels_now d es r.channels a b in
    record { few = omega (arith, waiting_length a b es, n.1); parts = waiting_labels d a b es n }

module _ (sh : Sheet) (book : Book) (o d : ℕ) (es : List Event) (e : Event) (r : Run sh book o d (es ++ (e ∷ []))) where
  before : Run sh book o d es
  before = run_front sh book o d es (e ∷ []) r

  ordered : (a b : ℕ) → InOrder d es a b
  ordered = channels_now d es before.channels

  step : (w : Way) → e.direction ≡ direction_of w → (a b : ℕ) → waiting a b (es ++ (e ∷ [])) ≡ channel_after (λ a b. waiting a b es) e w a b
  step w q = waiting_step d es e w q ordered

  kept : (w : Way) (q : e.direction ≡ direction_of w) (a b : ℕ) → (w ≡ sends → (a ≢ e.role) ⊎ (b ≢ e.partner)) → (w ≡ receives → (a ≢ e.partner) ⊎ (b ≢ e.role)) → waiting a b (es ++ (e ∷ [])) ≡ waiting a b es
  kept w q a b not-sent not_taken = step w q a b ∙ go (touches w e q a b)
    where
      clash : (x y z u : ℕ) → (x ≢ y) ⊎ (z ≢ u) → x ≡ y → z ≡ u → ⊥
      clash x y z u (inl n) p k = n p
      clash x y z u (inr n) p k = n k

      go : Touches w e a b → channel_after (λ a b. waiting a b es) e w a b ≡ waiting a b es
      go (untouched s t c) = c (λ a b. waiting a b es)
      go (longer v x y) = absurd (clash a e.role b e.partner (not-sent v) x y)
      go (shorter v x y) = absurd (clash a e.partner b e.role (not_taken v) x y)

  one_more : OneMore es e
  one_more = record {
    sending = λ q. step sends q e.role e.partner ∙ after_longer (λ a b. waiting a b es) e e.role e.partner refl refl;
    taking = taking;
    sending_keeps = λ q a b n. kept sends q a b (λ v. n) (λ v. absurd cc);
    taking_keeps = λ q a b n. kept receives q a b (λ v. absurd cc) (λ v. n);
    direction = direction_small e (way_of sh book o d es e r).0 (way_of sh book o d es e r).1;
  }
    where
      taking : e.direction ≡ 1 →
          (x : Message) × (waiting e.partner e.role es ≡ x ∷ waiting e.partner e.role (es ++ (e ∷ []))) × (x.label ≡ e.label) × (x.tick ≤ e.tick) × (under_way es e ≡ e.tick - x.tick)
      taking q =
          let fit : Fit d es e receives = fit_from d es e receives q ordered (channels_now d (es ++ (e ∷ [])) r.channels) in
          let w : waiting e.partner e.role (es ++ (e ∷ [])) ≡ drop 1 (waiting e.partner e.role es) = step receives q e.partner e.role ∙ after_shorter (λ a b. waiting a b es) e e.partner e.role refl refl in
          let v : waiting e.partner e.role (es ++ (e ∷ [])) ≡ fit.1 = w ∙ ap (drop 1) fit.2 in
          let late : AllByRecursion (λ (x : Message). x.tick ≤ last_tick o es) (fit.0 ∷ fit.1) = subst (AllByRecursion (λ (x : Message). x.tick ≤ last_tick o es)) fit.2 (waiting_late (last_tick o es) e.partner e.role es (rising_late o es before.ticks).1) in
          let last : last_tick o es ≤ e.tick = rising_last o es e r.ticks in
          let first : fit.0.tick ≤ last_tick o es = late.0 in
          (fit.0, fit.2 ∙ ap (λ (z : List Message). fit.0 ∷ z) (sym v), fit.3, omega arith, ap (λ (z : List Message). e.tick - oldest_tick z) fit.2)

pub channels_read : (book : Book) → ChannelsRead book
channels_read book sh o d = record { waits = λ es r. waits sh book o d es r; one_more = λ es e r. one_more sh book o d es e r }
