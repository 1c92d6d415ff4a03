-- The least tick at which an event passes is the least at which it makes a run.
use Rattle.std.proofs.Common.{ℕ, ◌≤◌, List, Some, None, Option, sym, subst}
use Rattle.sheet.specs.Model.{Sheet}
use Rattle.sheet.specs.Valid.{Valid}
use Rattle.events.specs.declared.event.Event.{Event}
use Rattle.runs.specs.Run.{Book}
use Rattle.runs.specs.Steady.{AllSteady}
use Rattle.runs.specs.Monitor.{Monitor}
use Rattle.runs.specs.Stands.{Stands}
use Rattle.runs.specs.Laws.{Least, CouldPass, Could, Foresees, Foresight, Keeping}
use Rattle.runs.proofs.Agree.{stands_agrees, reached_stands, opened_stands, passes_stands}
use Rattle.runs.proofs.Growth.{rising_last}

-- predicates that agree from the low end on have the same least value
pub least_by : (P Q : ℕ → Type 0) (low high : ℕ) → ((u : ℕ) → low ≤ u → P u → Q u) → ((u : ℕ) → low ≤ u → Q u → P u) → (answer : Option ℕ) → Least P low high answer → Least Q low high answer
least_by P Q low high f g None l = λ u x y q. l u x y (g u x q)
least_by P Q low high f g (Some t) l = (l.0, l.1, f t l.0 l.2, λ u x y q. l.3 u x y (g u x q))

pub stands_foresees : (sh : Sheet) (book : Book) → Valid sh → AllSteady sh → (o d : ℕ) (es : List Event) (σ : Monitor) → Stands sh book o d es σ → (m : ℕ) → Foresees sh book o d es σ m
stands_foresees sh book valid steady o d es σ k m = record {
  least = λ high answer. (least_by P Q σ.latest high (λ u _. there u) (λ u _. back u) answer, least_by Q P σ.latest high (λ u _. back u) (λ u _. there u) answer);
  from_latest = λ t x. subst (λ (n : ℕ). n ≤ t) (sym k.latest) (subst (λ (n : ℕ). last ≤ n) x.2 (rising_last o es x.0 x.3.ticks));
}
  where
    last : ℕ
    last = Rattle.runs.specs.Stands.last_tick o es

    P : ℕ → Type 0
    P = CouldPass sh book d σ m

    Q : ℕ → Type 0
    Q = Could sh book o d es m

    there : (u : ℕ) → CouldPass sh book d σ m u → Could sh book o d es m u
    there u x = (x.0, x.1, x.2, (stands_agrees sh book valid steady o d es σ k x.0).0 x.3)

    back : (u : ℕ) → Could sh book o d es m u → CouldPass sh book d σ m u
    back u x = (x.0, x.1, x.2, (stands_agrees sh book valid steady o d es σ k x.0).1 x.3)

pub foresight : (book : Book) → Foresight AllSteady book
foresight book sh valid steady o d es σ r m = stands_foresees sh book valid steady o d es σ (reached_stands sh book valid steady o d es σ r) m

pub keeping : (book : Book) → Keeping AllSteady book
keeping book sh valid steady o d = record {
  opens = opened_stands sh book o d;
  goes_on = λ es σ τ k e p c. passes_stands sh book valid steady o d es σ k e p τ c;
  agrees = λ es σ k e. stands_agrees sh book valid steady o d es σ k e;
  foresees = λ es σ k m. stands_foresees sh book valid steady o d es σ k m;
}
