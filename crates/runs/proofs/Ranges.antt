-- The events of a run name what the sheet has.
use Rattle.std.proofs.Common.{◌≡◌, ℕ, ◌<◌, List, [], ◌∷◌, ◌++◌, length, sym, refl, ◌∙◌, subst, append_assoc}
use Rattle.std.specs.List.{AllByRecursion}
use Rattle.sheet.specs.Model.{Sheet}
use Rattle.sheet.specs.Valid.{Valid}
use Rattle.protocol.specs.Sets.{Start}
use Rattle.protocol.proofs.Known.{action_known}
use Rattle.events.specs.declared.event.Event.{Event}
use Rattle.runs.specs.Events.{own}
use Rattle.runs.specs.Run.{Book, Run}
use Rattle.runs.specs.Laws.{InRange, RunsInRange}
use Rattle.runs.proofs.Own.{own_push_same}
use Rattle.runs.proofs.Growth.{all_last}
use Rattle.runs.proofs.Judging.{Fewer, accepts_pop}
use Rattle.runs.proofs.Agree.{on_path, direction_small}
use Rattle.runs.proofs.Fronts.{run_front}

last_in_range : (sh : Sheet) (book : Book) → Valid sh → (o d : ℕ) (es : List Event) (e : Event) → Run sh book o d (es ++ (e ∷ [])) → InRange sh e
last_in_range sh book valid o d es e r =
    let fewer : Fewer sh book e.role (Start sh e.role) o (own e.role es) e = accepts_pop sh book e.role (Start sh e.role) o (own e.role es) e (rw (own_push_same e.role es e refl) at (on_path sh book o d (es ++ (e ∷ [])) r e.role).accepts) in
    let j = fewer.last in
    let step = j.able.acts.1 in
    let known = action_known sh valid e.role step.place step.has j.action step.acts in
    record {
      role_known = all_last (λ x. x.role < length sh.roles) es e r.known;
      partner_known = rw j.fits.partner known.1;
      apart = rw j.fits.partner known.2;
      label_known = rw j.fits.label known.3;
      direction_known = direction_small e j.action.way j.fits.direction;
    }

-- what holds of the last event of every beginning holds of all
all_from_fronts : (P : Event → Type 0) (before es : List Event) → ((front : List Event) (e : Event) (back : List Event) → before ++ es ≡ front ++ (e ∷ back) → P e) → AllByRecursion P es
all_from_fronts P before [] each = tt
all_from_fronts P before (e ∷ es) each =
    (each before e es refl, all_from_fronts P (before ++ (e ∷ [])) es (λ front x back q. each front x back (sym (append_assoc before (e ∷ []) es) ∙ q)))

pub in_range : (book : Book) → RunsInRange book
in_range book sh valid o d es r = all_from_fronts (InRange sh) [] es each
  where
    each : (front : List Event) (e : Event) (back : List Event) → es ≡ front ++ (e ∷ back) → InRange sh e
    each front e back q =
        let s : es ≡ (front ++ (e ∷ [])) ++ back = q ∙ sym (append_assoc front (e ∷ []) back) in
        last_in_range sh book valid o d front e (run_front sh book o d (front ++ (e ∷ [])) back (subst (Run sh book o d) s r))
