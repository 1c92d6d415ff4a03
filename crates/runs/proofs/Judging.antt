-- One role's events: judged one after the other from its set, and what a path makes of them.
use Rattle.std.proofs.Common.{◌≡◌, ℕ, ◌-◌, ◌<◌, ◌≤◌, Bool, cond, ◌⊎◌, List, [], ◌∷◌, ◌++◌, length, sym, refl, ◌∙◌, subst, inl, inr, arith}
use Rattle.std.proofs.lemmas.Bool.{cases_lt}
use Rattle.sheet.specs.Model.{Sheet}
use Rattle.sheet.specs.Valid.{Valid}
use Rattle.protocol.specs.Places.{Place}
use Rattle.protocol.specs.Actions.{Action}
use Rattle.protocol.specs.Paths.{PathFrom, share}
use Rattle.protocol.specs.Sets.{here, Acts, Start, Led, Successor, After, Followed}
use Rattle.protocol.specs.Accepted.{Accepted}
use Rattle.protocol.proofs.Turns.{Asked, asked, unasked, ask}
use Rattle.protocol.proofs.Known.{action_known}
use Rattle.protocol.proofs.Closures.{Within, Closed, silent_closed}
use Rattle.protocol.proofs.Moves.{same_in_set}
use Rattle.events.specs.declared.event.Event.{Event}
use Rattle.runs.specs.Events.{labels}
use Rattle.runs.specs.Run.{Book, Admits, Fits, timings, last_reset}
use Rattle.runs.specs.Steady.{Steady, AllSteady}
use Rattle.runs.specs.Monitor.{Able}
use Rattle.runs.proofs.Clocks.{Follows}

-- X and every set after it is steady
abbrev pub SteadyFrom : Sheet → ℕ → (ℕ → Type 0) → Type 0
SteadyFrom sh m X = (ls : List ℕ) → Followed sh m X ls → Steady sh m (After sh m X ls)

pub steady_next : (sh : Sheet) (m : ℕ) (X : ℕ → Type 0) → SteadyFrom sh m X → (l t : ℕ) → Led sh m X l t → SteadyFrom sh m (Successor sh m X l)
steady_next sh m X steady l t x ls f = steady (l ∷ ls) ((t, x), f)

abbrev pub able_within : (sh : Sheet) (m : ℕ) (X Y : ℕ → Type 0) → Within X Y → (a : Action) → Able sh m X a → Able sh m Y a
able_within sh m X Y w a i = record { state = i.state; inside = w i.state i.inside; acts = i.acts }

-- where an action leads, under the label of an event that it fits
abbrev pub able_led : (sh : Sheet) (m : ℕ) (X : ℕ → Type 0) (a : Action) (i : Able sh m X a) (l : ℕ) → l ≡ a.label → Led sh m X l i.acts.0
able_led sh m X a i l q = record { state = i.state; inside = i.inside; action = a; labelled = sym q; step = i.acts.1 }

-- two actions of a steady set with one label are the same
pub same_able : (sh : Sheet) → Valid sh → (m : ℕ) (X : ℕ → Type 0) → Steady sh m X → (a b : Action) → Able sh m X a → Able sh m X b → a.label ≡ b.label → a ≡ b
same_able sh valid m X ok a b i j l = same_in_set sh valid m X ok.one_side ok.same_offer ok.no_clash i.state j.state i.inside j.inside a b i.acts j.acts l

-- an accepted sheet is steady
pub accepted_steady : (sh : Sheet) → Accepted sh → AllSteady sh
accepted_steady sh accepted m l ls f =
    let ok = (accepted m l).sound ls f in
    record { one_side = ok.one_side; same_offer = ok.same_offer; no_clash = ok.no_clash; told = λ s x a i w. ok.told s x a i }

-- a role that is not on the sheet acts nowhere, so all its sets are steady
pub steady_all : (sh : Sheet) → Valid sh → AllSteady sh → (m : ℕ) → SteadyFrom sh m (Start sh m)
steady_all sh valid steady m ls f = go (cases_lt m (length sh.roles))
  where
    idle : length sh.roles ≤ m → (s : ℕ) (a : Action) → Acts sh m s a → ⊥
    idle l s a i = let k = action_known sh valid m i.1.place i.1.has a i.1.acts in omega arith

    go : (m < length sh.roles) ⊎ (length sh.roles ≤ m) → Steady sh m (After sh m (Start sh m) ls)
    go (inl l) = steady m l ls f
    go (inr l) = record {
      one_side = λ s t x y a b i j. absurd (idle l s a i);
      same_offer = λ s t x y a b i j w. absurd (idle l s a i);
      no_clash = λ s t x y a b i j w q. absurd (idle l s a i);
      told = λ s x a i w. absurd (idle l s a i);
    }

-- one event of role m, from set X, with the clock last reset at c
pub record Judged (sh : Sheet) (book : Book) (m : ℕ) (X : ℕ → Type 0) (c : ℕ) (e : Event) : Type 0 where
  pub action : Action
  pub able : Able sh m X action
  pub fits : Fits e action
  pub holds : Admits book action.timing (e.tick - c)

-- a list of role m's events
abbrev pub Accepts : Sheet → Book → ℕ → (ℕ → Type 0) → ℕ → List Event → Type 0
Accepts sh book m X c [] = Unit {0}
Accepts sh book m X c (e ∷ es) = (j : Judged sh book m X c e) × Accepts sh book m (Successor sh m X e.label) (cond j.action.timing.reset e.tick c) es

abbrev pub judged_led : (sh : Sheet) (book : Book) (m : ℕ) (X : ℕ → Type 0) (c : ℕ) (e : Event) (j : Judged sh book m X c e) → Led sh m X e.label j.able.acts.0
judged_led sh book m X c e j = able_led sh m X j.action j.able e.label j.fits.label

module _ (sh : Sheet) (book : Book) (m : ℕ) where
  -- the tick of the last reset in the end
  abbrev pub end_clock : (X : ℕ → Type 0) (c : ℕ) (es : List Event) → Accepts sh book m X c es → ℕ
  end_clock X c [] k = c
  end_clock X c (e ∷ es) k = end_clock (Successor sh m X e.label) (cond k.0.action.timing.reset e.tick c) es k.1

  pub accepts_followed : (X : ℕ → Type 0) (c : ℕ) (es : List Event) → Accepts sh book m X c es → Followed sh m X (labels es)
  accepts_followed X c [] k = tt
  accepts_followed X c (e ∷ es) k =
      ((k.0.able.acts.0, judged_led sh book m X c e k.0), accepts_followed (Successor sh m X e.label) (cond k.0.action.timing.reset e.tick c) es k.1)

  -- one event more
  pub record More (X : ℕ → Type 0) (c : ℕ) (es : List Event) (k : Accepts sh book m X c es) (e : Event) (b : Bool) : Type 0 where
    pub accepts : Accepts sh book m X c (es ++ (e ∷ []))
    pub clock : end_clock X c (es ++ (e ∷ [])) accepts ≡ cond b e.tick (end_clock X c es k)

  pub accepts_push : (X : ℕ → Type 0) (c : ℕ) (es : List Event) (k : Accepts sh book m X c es) (e : Event) (j : Judged sh book m (After sh m X (labels es)) (end_clock X c es k) e) →
      More X c es k e j.action.timing.reset
  accepts_push X c [] k e j = record { accepts = (j, tt); clock = refl }
  accepts_push X c (x ∷ es) k e j =
      let r = accepts_push (Successor sh m X x.label) (cond k.0.action.timing.reset x.tick c) es k.1 e j in
      record { accepts = (k.0, r.accepts); clock = r.clock }

  -- one event fewer
  pub record Fewer (X : ℕ → Type 0) (c : ℕ) (es : List Event) (e : Event) : Type 0 where
    pub accepts : Accepts sh book m X c es
    pub last : Judged sh book m (After sh m X (labels es)) (end_clock X c es accepts) e

  pub accepts_pop : (X : ℕ → Type 0) (c : ℕ) (es : List Event) (e : Event) → Accepts sh book m X c (es ++ (e ∷ [])) → Fewer X c es e
  accepts_pop X c [] e k = record { accepts = tt; last = k.0 }
  accepts_pop X c (x ∷ es) e k =
      let r = accepts_pop (Successor sh m X x.label) (cond k.0.action.timing.reset x.tick c) es e k.1 in
      record { accepts = (k.0, r.accepts); last = r.last }

  -- steady sets leave no choice
  pub same_clock : Valid sh → (X : ℕ → Type 0) → SteadyFrom sh m X → (es : List Event) (c c' : ℕ) → c ≡ c' → (k : Accepts sh book m X c es) (k' : Accepts sh book m X c' es) → end_clock X c es k ≡ end_clock X c' es k'
  same_clock valid X steady [] c c' q k k' = q
  same_clock valid X steady (e ∷ es) c c' q k k' =
      let j = k.0 in
      let j' = k'.0 in
      let same : j.action ≡ j'.action = same_able sh valid m X (steady [] tt) j.action j'.action j.able j'.able (sym j.fits.label ∙ j'.fits.label) in
      same_clock valid (Successor sh m X e.label) (steady_next sh m X steady e.label j.able.acts.0 (judged_led sh book m X c e j)) es
      (cond j.action.timing.reset e.tick c) (cond j'.action.timing.reset e.tick c') (rw (same, q)) k.1 k'.1

  -- what follows its share of a path is judged good, with the clock that the path says
  pub record OnPath (X : ℕ → Type 0) (c : ℕ) (es : List Event) (actions : List Action) : Type 0 where
    pub accepts : Accepts sh book m X c es
    pub clock : end_clock X c es accepts ≡ last_reset c es (timings actions)

  pub path_accepts : (path : List Place) (X : ℕ → Type 0) (c s : ℕ) (es : List Event) → PathFrom sh s path → X s → Closed sh m X → Follows book c es (share m path) → OnPath X c es (share m path)
  path_accepts path X c s [] leads x closed f = record { accepts = tt; clock = refl }
  path_accepts [] X c s (e ∷ es) leads x closed f = absurd f
  path_accepts (p ∷ path) X c s (e ∷ es) leads x closed f =
      go (λ Y c' es' y cl g. path_accepts path Y c' p.branch.next es' leads.2 y cl g) (ask m p)
    where
      Rec : Type 1
      Rec = (Y : ℕ → Type 0) (c' : ℕ) (es' : List Event) → Y p.branch.next → Closed sh m Y → Follows book c' es' (share m path) → OnPath Y c' es' (share m path)

      inside : X p.state
      inside = subst X (sym leads.1) x

      go : Rec → Asked m p → OnPath X c (e ∷ es) (share m (p ∷ path))
      go rec (asked a t) =
          let g : Fits e a × Admits book a.timing (e.tick - c) × Follows book (cond a.timing.reset e.tick c) es (share m path) = rw t at f in
          let i : Able sh m X a = record { state = p.state; inside = inside; acts = (p.branch.next, record { place = p; has = leads.0; at = refl; acts = t; leads = refl }) } in
          let led : Led sh m X e.label p.branch.next = able_led sh m X a i e.label g.0.label in
          let r = rec (Successor sh m X e.label) (cond a.timing.reset e.tick c) es (here led) (silent_closed sh m (Led sh m X e.label)) g.2 in
          rw t (record { accepts = (record { action = a; able = i; fits = g.0; holds = g.1 }, r.accepts); clock = r.clock })
      go rec (unasked t) = rw t (rec X c (e ∷ es) (closed p leads.0 inside t) closed (rw t at f))
