-- The lists of events that a monitor passes are exactly the runs.
use Rattle.std.proofs.Common.{◌≡◌, ℕ, ◌<◌, ◌≤◌, Bool, false, cond, eqb, ◌⊎◌, List, [], ◌∷◌, ◌++◌, length, get_or, Decides, sym, refl, subst, inl, inr, append_assoc, append-nil, arith}
use Rattle.std.proofs.lemmas.Bool.{cond-true, cond-false, eq-eqb, ne_eqb, cases_lt}
use Rattle.sheet.specs.Model.{Sheet}
use Rattle.sheet.specs.Valid.{Valid}
use Rattle.protocol.specs.Actions.{Action}
use Rattle.protocol.specs.Sets.{Start, Successor, After, Followed}
use Rattle.protocol.specs.Accepted.{HasPart, Accepted}
use Rattle.protocol.proofs.Closures.{Within, successor_within, after_push, followed_push}
use Rattle.events.specs.declared.event.Event.{Event}
use Rattle.runs.specs.Events.{own, labels}
use Rattle.runs.specs.Run.{Book, Run}
use Rattle.runs.specs.Monitor.{Monitor, InSet, Opened, Passes, channel_after, Changes, Reached, opened, passed}
use Rattle.runs.specs.Stands.{SetAfter, Stands}
use Rattle.runs.specs.Laws.{PassedAreRuns}
use Rattle.runs.proofs.Judging.{able_within, able_led, accepts_followed, accepted_steady}
use Rattle.runs.proofs.Agree.{on_path, reached_stands, run_passes}
use Rattle.runs.proofs.Fronts.{run_front}

-- a role's set after labels that can be followed is one of the part's sets
set_of_part : (sh : Sheet) (m : ℕ) → HasPart sh m → (ls : List ℕ) → Followed sh m (Start sh m) ls → (set : ℕ → Bool) × ((s : ℕ) → Decides (set s) (After sh m (Start sh m) ls s))
set_of_part sh m part ls f = let x = part.all ls f in (get_or part.sets x.0 (λ _. false), x.2)

module _ (sh : Sheet) (accepted : Accepted sh) (o : ℕ) where
  start_set_of : (m : ℕ) → (m < length sh.roles) ⊎ (length sh.roles ≤ m) → ℕ → Bool
  start_set_of m (inl l) = (set_of_part sh m (accepted m l) [] tt).0
  start_set_of m (inr l) = λ s. false

  start_decides : (m : ℕ) (c : (m < length sh.roles) ⊎ (length sh.roles ≤ m)) → m < length sh.roles → (s : ℕ) → Decides (start_set_of m c s) (Start sh m s)
  unfolding start_set_of
  start_decides m (inl l) k s = (set_of_part sh m (accepted m l) [] tt).1 s
  start_decides m (inr l) k s = absurd (omega arith)

  abbrev fresh : Monitor
  fresh = record { set = λ m. start_set_of m (cases_lt m (length sh.roles)); since = λ m. o; channel = λ a b. []; latest = o }

  -- a monitor can be opened
  fresh_opened : Opened sh o fresh
  fresh_opened = record { set = λ m s l. start_decides m (cases_lt m (length sh.roles)) l s; since = λ m l. refl; channel = λ a b k l. refl; latest = refl }

-- a monitor can change as a passed event asks
module _ (sh : Sheet) (σ : Monitor) (e : Event) (a : Action) (set : ℕ → Bool) (decides : (s : ℕ) → Decides (set s) (Successor sh e.role (InSet σ e.role) e.label s)) where
  abbrev changed : Monitor
  changed = record {
    set = λ m s. cond (eqb m e.role) (set s) (σ.set m s);
    since = λ m. cond (eqb m e.role) (cond a.timing.reset e.tick (σ.since m)) (σ.since m);
    channel = channel_after σ.channel e a.way;
    latest = e.tick;
  }

  changes : Changes sh σ e a changed
  changes = record {
    set = λ s. subst (λ (b : Bool). Decides b (Successor sh e.role (InSet σ e.role) e.label s)) (sym (cond-true (eqb e.role e.role) (set s) (σ.set e.role s) (eq-eqb e.role e.role refl))) (decides s);
    set_kept = λ m s l n. cond-false (eqb m e.role) (set s) (σ.set m s) (ne_eqb m e.role n);
    since = cond-true (eqb e.role e.role) (cond a.timing.reset e.tick (σ.since e.role)) (σ.since e.role) (eq-eqb e.role e.role refl);
    since_kept = λ m l n. cond-false (eqb m e.role) (cond a.timing.reset e.tick (σ.since m)) (σ.since m) (ne_eqb m e.role n);
    channel = λ b c k l. refl;
    latest = refl;
  }

module _ (sh : Sheet) (book : Book) (valid : Valid sh) (accepted : Accepted sh) (o d : ℕ) where
  -- the set after one event more
  next_set : (es : List Event) (σ : Monitor) (k : Stands sh book o d es σ) (e : Event) (p : Passes sh book d σ e) → (set : ℕ → Bool) × ((s : ℕ) → Decides (set s) (Successor sh e.role (InSet σ e.role) e.label s))
  next_set es σ k e p =
      let f : Followed sh e.role (Start sh e.role) (labels (own e.role es)) = accepts_followed sh book e.role (Start sh e.role) o (own e.role es) (on_path sh book o d es k.run e.role).accepts in
      let i = able_within sh e.role (InSet σ e.role) (SetAfter sh e.role es) (λ s x. (k.set e.role s p.role_known).0 x) p.action p.able in
      let g : Followed sh e.role (Start sh e.role) (labels (own e.role es) ++ (e.label ∷ [])) = followed_push sh e.role (Start sh e.role) (labels (own e.role es)) e.label i.acts.0 f (able_led sh e.role (SetAfter sh e.role es) p.action i e.label p.fits.label) in
      let x = set_of_part sh e.role (accepted e.role p.role_known) (labels (own e.role es) ++ (e.label ∷ [])) g in
      let there : Within (Successor sh e.role (SetAfter sh e.role es) e.label) (Successor sh e.role (InSet σ e.role) e.label) = successor_within sh e.role (SetAfter sh e.role es) (InSet σ e.role) (λ t y. (k.set e.role t p.role_known).1 y) e.label in
      let back : Within (Successor sh e.role (InSet σ e.role) e.label) (Successor sh e.role (SetAfter sh e.role es) e.label) = successor_within sh e.role (InSet σ e.role) (SetAfter sh e.role es) (λ t y. (k.set e.role t p.role_known).0 y) e.label in
      let y : (s : ℕ) → Decides (x.0 s) (Successor sh e.role (SetAfter sh e.role es) e.label s) = subst (λ (Y : ℕ → Type 0). (s : ℕ) → Decides (x.0 s) (Y s)) (after_push sh e.role (Start sh e.role) (labels (own e.role es)) e.label) x.1 in
      (x.0, λ s. (λ q. there s ((y s).0 q), λ z. (y s).1 (back s z)))

  -- from a monitor that passed the front, on to the whole run
  reach : (rest front : List Event) (σ : Monitor) → Reached sh book o d front σ → Run sh book o d (front ++ rest) → (τ : Monitor) × Reached sh book o d (front ++ rest) τ
  reach [] front σ r run = (σ, subst (λ (z : List Event). Reached sh book o d z σ) (sym (append-nil front)) r)
  reach (e ∷ rest) front σ r run =
      let k : Stands sh book o d front σ = reached_stands sh book valid (accepted_steady sh accepted) o d front σ r in
      let q : front ++ (e ∷ rest) ≡ (front ++ (e ∷ [])) ++ rest = sym (append_assoc front (e ∷ []) rest) in
      let run' : Run sh book o d ((front ++ (e ∷ [])) ++ rest) = subst (Run sh book o d) q run in
      let p : Passes sh book d σ e = run_passes sh book valid (accepted_steady sh accepted) o d front σ k e (run_front sh book o d (front ++ (e ∷ [])) rest run') in
      let n = next_set front σ k e p in
      let x = reach rest (front ++ (e ∷ [])) (changed sh σ e p.action n.0 n.1) (passed e r p (changes sh σ e p.action n.0 n.1)) run' in
      (x.0, subst (λ (z : List Event). Reached sh book o d z x.0) (sym q) x.1)

pub passed_are_runs : (book : Book) → PassedAreRuns book
passed_are_runs book sh valid accepted o d es =
    (λ x. (reached_stands sh book valid (accepted_steady sh accepted) o d es x.0 x.1).run, λ r. reach sh book valid accepted o d es [] (fresh sh accepted o) (opened (fresh_opened sh accepted o)) r)
