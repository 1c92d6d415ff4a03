-- The part is the projection.
use Rattle.std.proofs.Common.{◌≡◌, ℕ, List, [], ◌∷◌, ◌++◌, sym, refl, ap, ◌∙◌, subst, ap₂, append-nil}
use Rattle.sheet.specs.Model.{Sheet}
use Rattle.sheet.specs.Valid.{Valid}
use Rattle.protocol.specs.Places.{Place}
use Rattle.protocol.specs.Actions.{Way, sends, receives, Action}
use Rattle.protocol.specs.Paths.{PathFrom, end_of, share}
use Rattle.protocol.specs.Sets.{here, Step, Acts, Start, Led, Successor, After, Followed}
use Rattle.protocol.specs.Sound.{OneSide, SameOffer, NoClash}
use Rattle.protocol.specs.Accepted.{HasPart}
use Rattle.protocol.specs.Projection.{Move, move, moves, label_of, labels, Does, Played, BeginsShare, LeadsTo, OneSided, LabelDetermines, PartIsProjection, LabelsAlwaysSuffice, PartsProject}
use Rattle.protocol.proofs.Turns.{Asked, asked, unasked, ask, same_action}
use Rattle.protocol.proofs.Known.{same_step}
use Rattle.protocol.proofs.Closures.{Closed, silent_closed}
use Rattle.protocol.proofs.Walks.{Walk, silent_walk, walk_append, led_walk}

-- the first point in X and in every set after it
abbrev pub OneSidedFrom : Sheet → ℕ → (ℕ → Type 0) → Type 0
OneSidedFrom sh m X = (ls : List ℕ) → Followed sh m X ls → OneSide sh m (After sh m X ls)

pub does_led : (sh : Sheet) (m : ℕ) (X : ℕ → Type 0) (v : Move) → Does sh m X v → (t : ℕ) × Led sh m X v.label t
does_led sh m X v d = (d.acts.0, record { state = d.state; inside = d.inside; action = d.action; labelled = ap label_of d.is; step = d.acts.1 })

pub one_sided_next : (sh : Sheet) (m : ℕ) (X : ℕ → Type 0) → OneSidedFrom sh m X → (l t : ℕ) → Led sh m X l t → OneSidedFrom sh m (Successor sh m X l)
one_sided_next sh m X one l t x ls f = one (l ∷ ls) ((t, x), f)

abbrev of_parts : Way → ℕ → ℕ → Move
of_parts w k l = record { way = w; partner = k; label = l }

-- in a set with the first point, two actions with one label are one move
pub one_move : (sh : Sheet) (m : ℕ) (X : ℕ → Type 0) → OneSide sh m X → (s t : ℕ) → X s → X t → (a b : Action) → Acts sh m s a → Acts sh m t b → a.label ≡ b.label → move a ≡ move b
one_move sh m X one s t x y a b i j l =
    let w = one s t x y a b i j in
    let e : of_parts a.way a.partner a.label ≡ of_parts b.way b.partner b.label = rw (w.0, w.1, l) in
    e

-- From sets to paths: to every state of the set after those moves leads a path with those moves.
successor_walk : (sh : Sheet) (m : ℕ) (X : ℕ → Type 0) → OneSide sh m X → (v : Move) → Does sh m X v → (s : ℕ) → Successor sh m X v.label s → Walk sh m X (v ∷ []) s
successor_walk sh m X one v d s x =
    walk_append sh m X (Led sh m X v.label) (v ∷ []) [] s first (silent_walk sh m (Led sh m X v.label) s x)
  where
    first : (t : ℕ) → Led sh m X v.label t → Walk sh m X (v ∷ []) t
    first t led =
        let is : move led.action ≡ v = one_move sh m X one led.state d.state led.inside d.inside led.action d.action (t, led.step) d.acts (led.labelled ∙ sym (ap label_of d.is)) ∙ d.is in
        subst (λ (w : Move). Walk sh m X (w ∷ []) t) is (led_walk sh m X v.label t led)

pub set_walk : (sh : Sheet) (m : ℕ) (X : ℕ → Type 0) → OneSidedFrom sh m X → (vs : List Move) → Played sh m X vs → (s : ℕ) → After sh m X (labels vs) s → Walk sh m X vs s
set_walk sh m X one [] played s x = record { from = s; inside = x; path = []; leads = tt; shares = refl; ends = refl }
set_walk sh m X one (v ∷ vs) played s x =
    let led = does_led sh m X v played.0 in
    walk_append sh m X (Successor sh m X v.label) (v ∷ []) vs s (successor_walk sh m X (one [] tt) v played.0)
    (set_walk sh m (Successor sh m X v.label) (one_sided_next sh m X one v.label led.0 led.1) vs played.1 s x)

-- From paths to sets: a path from a state of X has its moves made from X, and leads into the set after them.
abbrev pub Made : Sheet → ℕ → (ℕ → Type 0) → List Move → ℕ → Type 0
Made sh m X vs s = Played sh m X vs × After sh m X (labels vs) s

pub path_made : (sh : Sheet) (m : ℕ) (path : List Place) (X : ℕ → Type 0) (s : ℕ) → Closed sh m X → X s → PathFrom sh s path → Made sh m X (moves (share m path)) (end_of s path)
path_made sh m [] X s closed x leads = (tt, x)
path_made sh m (p ∷ path) X s closed x leads = go (λ Y c y. path_made sh m path Y p.branch.next c y leads.2) (ask m p)
  where
    Rec : Type 1
    Rec = (Y : ℕ → Type 0) → Closed sh m Y → Y p.branch.next → Made sh m Y (moves (share m path)) (end_of p.branch.next path)

    inside : X p.state
    inside = subst X (sym leads.1) x

    go : Rec → Asked m p → Made sh m X (moves (share m (p ∷ path))) (end_of p.branch.next path)
    go rec (unasked t) = rw t (rec X closed (closed p leads.0 inside t))
    go rec (asked a t) =
        let step : Step sh m p.state a p.branch.next = record { place = p; has = leads.0; at = refl; acts = t; leads = refl } in
        let led : Led sh m X a.label p.branch.next = record { state = p.state; inside = inside; action = a; labelled = refl; step = step } in
        let rest = rec (Successor sh m X a.label) (silent_closed sh m (Led sh m X a.label)) (here led) in
        rw t ((record { state = p.state; inside = inside; action = a; acts = (p.branch.next, step); is = refl }, rest.0), rest.1)

pub played_front : (sh : Sheet) (m : ℕ) (X : ℕ → Type 0) (vs ws : List Move) → Played sh m X (vs ++ ws) → Played sh m X vs
played_front sh m X [] ws p = tt
played_front sh m X (v ∷ vs) ws p = (p.0, played_front sh m (Successor sh m X v.label) vs ws p.1)

-- some state is in the set after moves that can be made
pub played_inside : (sh : Sheet) (m : ℕ) (X : ℕ → Type 0) (s : ℕ) → X s → (vs : List Move) → Played sh m X vs → (t : ℕ) × After sh m X (labels vs) t
played_inside sh m X s x [] p = (s, x)
played_inside sh m X s x (v ∷ vs) p =
    let led = does_led sh m X v p.0 in
    played_inside sh m (Successor sh m X v.label) led.0 (here led.1) vs p.1

start_walk : (sh : Sheet) (m : ℕ) (vs : List Move) (s : ℕ) → Walk sh m (Start sh m) vs s → LeadsTo sh m vs s
start_walk sh m vs s w =
    let v = walk_append sh m (λ t. t ≡ 0) (Start sh m) [] vs s (λ t x. silent_walk sh m (λ t. t ≡ 0) t x) w in
    record { path = v.path; leads = subst (λ (n : ℕ). PathFrom sh n v.path) v.inside v.leads; shares = v.shares; ends = ap (λ (n : ℕ). end_of n v.path) (sym v.inside) ∙ v.ends }

pub start_made : (sh : Sheet) (m : ℕ) (path : List Place) → PathFrom sh 0 path → Made sh m (Start sh m) (moves (share m path)) (end_of 0 path)
start_made sh m path leads = path_made sh m path (Start sh m) 0 (silent_closed sh m (λ s. s ≡ 0)) (here refl) leads

pub projects : PartIsProjection
projects sh m one = record {
  follows = λ vs. (begins vs, played vs);
  set = λ vs p s. (λ x. start_walk sh m vs s (set_walk sh m (Start sh m) one vs p s x), inside vs s);
}
  where
    begins : (vs : List Move) → Played sh m (Start sh m) vs → BeginsShare sh m vs
    begins vs p =
        let x = played_inside sh m (Start sh m) 0 (here refl) vs p in
        let w = start_walk sh m vs x.0 (set_walk sh m (Start sh m) one vs p x.0 x.1) in
        record { path = w.path; leads = w.leads; rest = []; begins = w.shares ∙ sym (append-nil vs) }

    played : (vs : List Move) → BeginsShare sh m vs → Played sh m (Start sh m) vs
    played vs b = played_front sh m (Start sh m) vs b.rest (subst (Played sh m (Start sh m)) b.begins (start_made sh m b.path b.leads).0)

    inside : (vs : List Move) (s : ℕ) → LeadsTo sh m vs s → After sh m (Start sh m) (labels vs) s
    inside vs s w =
        let x : After sh m (Start sh m) (labels (moves (share m w.path))) (end_of 0 w.path) = (start_made sh m w.path w.leads).1 in
        let y : After sh m (Start sh m) (labels vs) (end_of 0 w.path) = subst (λ (z : List Move). After sh m (Start sh m) (labels z) (end_of 0 w.path)) w.shares x in
        subst (After sh m (Start sh m) (labels vs)) w.ends y

-- Labels and moves.
pub played_followed : (sh : Sheet) (m : ℕ) (X : ℕ → Type 0) (vs : List Move) → Played sh m X vs → Followed sh m X (labels vs)
played_followed sh m X [] p = tt
played_followed sh m X (v ∷ vs) p = (does_led sh m X v p.0, played_followed sh m (Successor sh m X v.label) vs p.1)

pub followed_played : (sh : Sheet) (m : ℕ) (X : ℕ → Type 0) (ls : List ℕ) → Followed sh m X ls → (vs : List Move) × (labels vs ≡ ls) × Played sh m X vs
followed_played sh m X [] f = ([], refl, tt)
followed_played sh m X (l ∷ ls) f =
    let rest = followed_played sh m (Successor sh m X l) ls f.1 in
    let led = f.0.1 in (
      move led.action ∷ rest.0,
      ap₂ (λ (x : ℕ) (y : List ℕ). x ∷ y) led.labelled rest.1,
      (
        record { state = led.state; inside = led.inside; action = led.action; acts = (f.0.0, led.step); is = refl },
        rw led.labelled rest.2,
      ),
    )

one_played : (sh : Sheet) (m : ℕ) (X : ℕ → Type 0) → OneSidedFrom sh m X → (vs ws : List Move) → Played sh m X vs → Played sh m X ws → labels vs ≡ labels ws → vs ≡ ws
one_played sh m X one [] [] p q e = refl
one_played sh m X one [] (w ∷ ws) p q e = cc
one_played sh m X one (v ∷ vs) [] p q e = cc
one_played sh m X one (v ∷ vs) (w ∷ ws) p q e =
    let d = p.0 in
    let c = q.0 in
    let led = does_led sh m X v d in
    let l : v.label ≡ w.label = cc in
    let is : v ≡ w = sym d.is ∙ one_move sh m X (one [] tt) d.state c.state d.inside c.inside d.action c.action d.acts c.acts (ap label_of d.is ∙ l ∙ sym (ap label_of c.is)) ∙ c.is in
    let rest : vs ≡ ws = one_played sh m (Successor sh m X v.label) (one_sided_next sh m X one v.label led.0 led.1) vs ws p.1 (rw l q.1) (cc) in
    ap₂ (λ (x : Move) (y : List Move). x ∷ y) is rest

pub suffice : LabelsAlwaysSuffice
suffice sh m one = record {
  followed = λ ls. (followed_played sh m (Start sh m) ls, λ x. subst (Followed sh m (Start sh m)) x.1 (played_followed sh m (Start sh m) x.0 x.2));
  one = one_played sh m (Start sh m) one;
}

-- In a set of a valid sheet with the first three points, the label determines the whole action.
pub same_in_set : (sh : Sheet) → Valid sh → (m : ℕ) (X : ℕ → Type 0) → OneSide sh m X → SameOffer sh m X → NoClash sh m X → (s t : ℕ) → X s → X t → (a b : Action) → Acts sh m s a → Acts sh m t b → a.label ≡ b.label → a ≡ b
same_in_set sh valid m X one offer clash s t x y a b i j l =
    let w = one s t x y a b i j in
    same_action a b w.0 w.1 l (timing a.way refl)
  where
    timing : (w : Way) → a.way ≡ w → a.timing ≡ b.timing
    timing sends e =
        let c = offer s t x y a b i j e in
        sym c.3 ∙ ap (λ (z : Action). z.timing) (same_step sh valid m t c.0 b c.1 j (c.2 ∙ l))
    timing receives e = clash s t x y a b i j e l

pub part_one_sided : (sh : Sheet) (m : ℕ) → HasPart sh m → OneSided sh m
part_one_sided sh m part ls f = (part.sound ls f).one_side

pub parts_project : PartsProject
parts_project sh valid m part = (projects sh m (part_one_sided sh m part), suffice sh m (part_one_sided sh m part), determined)
  where
    determined : LabelDetermines sh m
    determined ls f = let ok = part.sound ls f in same_in_set sh valid m (After sh m (Start sh m) ls) ok.one_side ok.same_offer ok.no_clash
