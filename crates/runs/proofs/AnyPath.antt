-- Clocks do not hang on the path: judged events follow every path whose share they begin.
use Rattle.std.proofs.Common.{◌≡◌, ℕ, ◌-◌, cond, List, [], ◌∷◌, sym, refl, ◌∙◌, subst}
use Rattle.sheet.specs.Model.{Sheet}
use Rattle.sheet.specs.Valid.{Valid}
use Rattle.protocol.specs.Places.{Place}
use Rattle.protocol.specs.Actions.{Action}
use Rattle.protocol.specs.Paths.{PathFrom, share}
use Rattle.protocol.specs.Sets.{here, Start, Led, Successor}
use Rattle.protocol.proofs.Turns.{Asked, asked, unasked, ask}
use Rattle.protocol.proofs.Closures.{Closed, silent_closed}
use Rattle.events.specs.declared.event.Event.{Event}
use Rattle.runs.specs.Events.{own}
use Rattle.runs.specs.Run.{Book, Admits, Fits, Beginning}
use Rattle.runs.specs.Steady.{AllSteady}
use Rattle.runs.specs.Monitor.{Able}
use Rattle.runs.specs.Laws.{AnyPathServes}
use Rattle.runs.proofs.Clocks.{Follows, timely}
use Rattle.runs.proofs.Judging.{SteadyFrom, steady_next, steady_all, same_able, able_led, Accepts, same_clock, path_accepts}
use Rattle.runs.proofs.Agree.{on_path}

module _ (sh : Sheet) (book : Book) (valid : Valid sh) (m : ℕ) where
  pub path_follows : (path : List Place) (X : ℕ → Type 0) (c s : ℕ) (es : List Event) → PathFrom sh s path → X s → Closed sh m X → SteadyFrom sh m X → Accepts sh book m X c es → Beginning es (share m path) → Follows book c es (share m path)
  path_follows path X c s [] leads x closed steady k b = tt
  path_follows [] X c s (e ∷ es) leads x closed steady k b = absurd b
  path_follows (p ∷ path) X c s (e ∷ es) leads x closed steady k b =
      go (λ Y c' es' y cl st k' b'. path_follows path Y c' p.branch.next es' leads.2 y cl st k' b') (ask m p)
    where
      Rec : Type 1
      Rec = (Y : ℕ → Type 0) (c' : ℕ) (es' : List Event) → Y p.branch.next → Closed sh m Y → SteadyFrom sh m Y → Accepts sh book m Y c' es' → Beginning es' (share m path) → Follows book c' es' (share m path)

      inside : X p.state
      inside = subst X (sym leads.1) x

      go : Rec → Asked m p → Follows book c (e ∷ es) (share m (p ∷ path))
      go rec (unasked t) = rw t (rec X c (e ∷ es) (closed p leads.0 inside t) closed steady k (rw t at b))
      go rec (asked a t) =
          let f : Fits e a × Beginning es (share m path) = rw t at b in
          let i : Able sh m X a = record { state = p.state; inside = inside; acts = (p.branch.next, record { place = p; has = leads.0; at = refl; acts = t; leads = refl }) } in
          let j = k.0 in
          let same : j.action ≡ a = same_able sh valid m X (steady [] tt) j.action a j.able i (sym j.fits.label ∙ f.0.label) in
          let led : Led sh m X e.label p.branch.next = able_led sh m X a i e.label f.0.label in
          let rest : Accepts sh book m (Successor sh m X e.label) (cond a.timing.reset e.tick c) es = subst (λ (z : Action). Accepts sh book m (Successor sh m X e.label) (cond z.timing.reset e.tick c) es) same k.1 in
          rw t (
            f.0,
            subst (λ (z : Action). Admits book z.timing (e.tick - c)) same j.holds,
            rec (Successor sh m X e.label) (cond a.timing.reset e.tick c) es (here led) (silent_closed sh m (Led sh m X e.label)) (steady_next sh m X steady e.label p.branch.next led) rest f.1,
          )

pub any_path : (book : Book) → AnyPathServes AllSteady book
any_path book sh valid steady o d es r path leads m b =
    let on = on_path sh book o d es r m in
    let f : Follows book o (own m es) (share m path) = path_follows sh book valid m path (Start sh m) o 0 (own m es) leads (here refl) (silent_closed sh m (λ s. s ≡ 0)) (steady_all sh valid steady m) on.accepts b in
    let other = path_accepts sh book m path (Start sh m) o 0 (own m es) leads (here refl) (silent_closed sh m (λ s. s ≡ 0)) f in
    record {
      timely = timely book o (own m es) (share m path) f;
      same_reset = sym other.clock ∙ same_clock sh book m valid (Start sh m) (steady_all sh valid steady m) (own m es) o o refl other.accepts on.accepts ∙ on.clock;
    }
