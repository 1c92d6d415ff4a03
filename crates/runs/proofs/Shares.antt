-- A role's set after its events, by paths.
use Rattle.std.proofs.Common.{◌≡◌, ℕ, suc, List, [], ◌∷◌, length, sym, refl, ap, subst, ap₂, arith}
use Rattle.sheet.specs.Model.{Sheet}
use Rattle.protocol.specs.Actions.{Action}
use Rattle.protocol.specs.Paths.{end_of, share}
use Rattle.protocol.specs.Sets.{Start, Successor, After, Followed}
use Rattle.protocol.specs.Projection.{Move, move, moves, Played, LeadsTo, OneSided}
use Rattle.protocol.specs.Projection as projection
use Rattle.protocol.proofs.Moves.{projects, start_made, played_followed}
use Rattle.events.specs.declared.event.Event.{Event}
use Rattle.runs.specs.Events.{direction_of, own, labels}
use Rattle.runs.specs.Run.{Book, Beginning}
use Rattle.runs.specs.Steady.{AllSteady}
use Rattle.runs.specs.Stands.{SetAfter}
use Rattle.runs.specs.Closing.{Whole}
use Rattle.runs.specs.Laws.{PathTo, SetsRead}
use Rattle.runs.proofs.Judging.{Accepts}
use Rattle.runs.proofs.Agree.{on_path}

-- the events are those moves
pub record FitsMove (e : Event) (v : Move) : Type 0 where
  pub direction : e.direction ≡ direction_of v.way
  pub partner : e.partner ≡ v.partner
  pub label : e.label ≡ v.label

abbrev FitsMoves : List Event → List Move → Type 0
FitsMoves [] [] = Unit {0}
FitsMoves [] (v ∷ vs) = ⊥
FitsMoves (e ∷ es) [] = ⊥
FitsMoves (e ∷ es) (v ∷ vs) = FitsMove e v × FitsMoves es vs

-- judged events are moves that can be made
record AsMoves (sh : Sheet) (m : ℕ) (X : ℕ → Type 0) (es : List Event) : Type 0 where
  vs : List Move
  labelled : projection.labels vs ≡ labels es
  played : Played sh m X vs
  fits : FitsMoves es vs

as_moves : (sh : Sheet) (book : Book) (m : ℕ) (X : ℕ → Type 0) (c : ℕ) (es : List Event) → Accepts sh book m X c es → AsMoves sh m X es
as_moves sh book m X c [] k = record { vs = []; labelled = refl; played = tt; fits = tt }
as_moves sh book m X c (e ∷ es) k =
    let j = k.0 in
    let rest = as_moves sh book m (Successor sh m X e.label) _ es k.1 in
    record {
      vs = move j.action ∷ rest.vs;
      labelled = ap₂ (λ (x : ℕ) (y : List ℕ). x ∷ y) (sym j.fits.label) rest.labelled;
      played = (record { state = j.able.state; inside = j.able.inside; action = j.action; acts = j.able.acts; is = refl }, rw (← j.fits.label) rest.played);
      fits = (record { direction = j.fits.direction; partner = j.fits.partner; label = j.fits.label }, rest.fits);
    }

-- actions that make those moves are the events' whole share
whole_from : (es : List Event) (vs : List Move) (actions : List Action) → FitsMoves es vs → moves actions ≡ vs → Whole es actions
whole_from [] [] [] f q = record { begin = tt; all = refl }
whole_from [] [] (a ∷ actions) f q = absurd cc
whole_from [] (v ∷ vs) actions f q = absurd f
whole_from (e ∷ es) [] actions f q = absurd f
whole_from (e ∷ es) (v ∷ vs) [] f q = absurd cc
whole_from (e ∷ es) (v ∷ vs) (a ∷ actions) f q =
    let rest = whole_from es vs actions f.1 (cc) in
    let is : move a ≡ v = cc in
    let fit : FitsMove e (move a) = subst (FitsMove e) (sym is) f.0 in
    record { begin = (record { direction = fit.direction; partner = fit.partner; label = fit.label }, rest.begin); all = ap suc rest.all }

-- a whole share has the events' labels
pub whole_labels : (es : List Event) (actions : List Action) → Beginning es actions → length es ≡ length actions → projection.labels (moves actions) ≡ labels es
whole_labels [] [] b n = refl
whole_labels [] (a ∷ actions) b n = absurd (omega arith)
whole_labels (e ∷ es) [] b n = absurd b
whole_labels (e ∷ es) (a ∷ actions) b n = ap₂ (λ (x : ℕ) (y : List ℕ). x ∷ y) (sym b.0.label) (whole_labels es actions b.1 (cc))

-- a path whose share the events are leads into their set, and they can be followed
pub path_inside : (sh : Sheet) (m : ℕ) (es : List Event) (s : ℕ) → PathTo sh m es s → Followed sh m (Start sh m) (labels (own m es)) × SetAfter sh m es s
path_inside sh m es s p =
    let l : projection.labels (moves (share m p.path)) ≡ labels (own m es) = whole_labels (own m es) (share m p.path) p.shares.begin p.shares.all in
    let made = start_made sh m p.path p.leads in (
      subst (Followed sh m (Start sh m)) l (played_followed sh m (Start sh m) (moves (share m p.path)) made.0),
      subst (SetAfter sh m es) p.ends (subst (λ (z : List ℕ). After sh m (Start sh m) z (end_of 0 p.path)) l made.1),
    )

pub sets_read : (book : Book) → SetsRead AllSteady book
sets_read book sh valid steady o d es r m l s = (there, λ p. (path_inside sh m es s p).1)
  where
    one_sided : OneSided sh m
    one_sided ls f = (steady m l ls f).one_side

    there : SetAfter sh m es s → PathTo sh m es s
    there x =
        let am = as_moves sh book m (Start sh m) o (own m es) (on_path sh book o d es r m).accepts in
        let y : After sh m (Start sh m) (projection.labels am.vs) s = subst (λ (z : List ℕ). After sh m (Start sh m) z s) (sym am.labelled) x in
        let w : LeadsTo sh m am.vs s = ((projects sh m one_sided).set am.vs am.played s).0 y in
        record { path = w.path; leads = w.leads; shares = whole_from (own m es) am.vs (share m w.path) am.fits w.shares; ends = w.ends }
