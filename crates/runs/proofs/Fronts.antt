-- Every beginning of a run is a run.
use Rattle.std.proofs.Common.{ℕ, ◌<◌, List, [], ◌∷◌, ◌++◌, length, ap, ◌∙◌, subst, append_assoc}
use Rattle.sheet.specs.Model.{Sheet}
use Rattle.protocol.specs.Actions.{Timing, Action}
use Rattle.protocol.specs.Paths.{share}
use Rattle.events.specs.declared.event.Event.{Event}
use Rattle.runs.specs.Events.{own}
use Rattle.runs.specs.Run.{Book, Beginning, timings, Timely, Run}
use Rattle.runs.specs.Laws.{Beginnings}
use Rattle.runs.proofs.Own.{own_append}
use Rattle.runs.proofs.Growth.{rising_front, all_front, channels_front}
use Rattle.runs.proofs.Agree.{empty_run}

beginning_front : (front back : List Event) (actions : List Action) → Beginning (front ++ back) actions → Beginning front actions
beginning_front [] back actions b = tt
beginning_front (e ∷ front) back [] b = b
beginning_front (e ∷ front) back (a ∷ actions) b = (b.0, beginning_front front back actions b.1)

timely_front : (book : Book) (o : ℕ) (front back : List Event) (ts : List Timing) → Timely book o (front ++ back) ts → Timely book o front ts
timely_front book o front back ts timely before after e q =
    timely before (after ++ back) e (ap (λ (z : List Event). z ++ back) q ∙ append_assoc before (e ∷ after) back)

pub run_front : (sh : Sheet) (book : Book) (o d : ℕ) (front back : List Event) → Run sh book o d (front ++ back) → Run sh book o d front
run_front sh book o d front back r = record {
  ticks = rising_front o front back r.ticks;
  channels = channels_front d front back r.channels;
  known = all_front (λ e. e.role < length sh.roles) front back r.known;
  path = r.path;
  leads = r.leads;
  shares = λ m. beginning_front (own m front) (own m back) (share m r.path) (subst (λ (z : List Event). Beginning z (share m r.path)) (own_append m front back) (r.shares m));
  clocks = λ m. timely_front book o (own m front) (own m back) (timings (share m r.path)) (subst (λ (z : List Event). Timely book o z (timings (share m r.path))) (own_append m front back) (r.clocks m));
}

pub beginnings : (book : Book) → Beginnings book
beginnings book sh o d = record { empty = empty_run sh book o d; front = run_front sh book o d }
