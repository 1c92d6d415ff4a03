-- Paths end to end, and what silent closure and successor say as paths.
use Rattle.std.proofs.Common.{◌≡◌, ℕ, List, [], ◌∷◌, ◌++◌, sym, refl, ap, ◌∙◌, subst, ap₂, append_assoc, append-nil}
use mathlib.Core.List.{map-append}
use Rattle.sheet.specs.Model.{Sheet}
use Rattle.protocol.specs.Places.{Place, Has}
use Rattle.protocol.specs.Actions.{Action, turn}
use Rattle.protocol.specs.Paths.{PathFrom, end_of, share}
use Rattle.protocol.specs.Sets.{Silent, here, on, Led}
use Rattle.protocol.specs.Projection.{Move, move, moves}

pub path_append : (sh : Sheet) (s : ℕ) (xs ys : List Place) → PathFrom sh s xs → PathFrom sh (end_of s xs) ys → PathFrom sh s (xs ++ ys)
path_append sh s [] ys p q = q
path_append sh s (x ∷ xs) ys p q = (p.0, p.1, path_append sh x.branch.next xs ys p.2 q)

pub end_append : (s : ℕ) (xs ys : List Place) → end_of s (xs ++ ys) ≡ end_of (end_of s xs) ys
end_append s [] ys = refl
end_append s (x ∷ xs) ys = end_append x.branch.next xs ys

pub share_append : (m : ℕ) (xs ys : List Place) → share m (xs ++ ys) ≡ share m xs ++ share m ys
share_append m [] ys = refl
share_append m (x ∷ xs) ys = ap (λ (z : List Action). turn m x ++ z) (share_append m xs ys) ∙ sym (append_assoc (turn m x) (share m xs) (share m ys))

-- a path from a state of X to s, on which role m has those moves as its share
pub record Walk (sh : Sheet) (m : ℕ) (X : ℕ → Type 0) (vs : List Move) (s : ℕ) : Type 0 where
  pub from : ℕ
  pub inside : X from
  pub path : List Place
  pub leads : PathFrom sh from path
  pub shares : moves (share m path) ≡ vs
  pub ends : end_of from path ≡ s

moves_append : (m : ℕ) (xs ys : List Place) → moves (share m (xs ++ ys)) ≡ moves (share m xs) ++ moves (share m ys)
moves_append m xs ys = ap moves (share_append m xs ys) ∙ map-append move (share m xs) (share m ys)

-- a walk after a walk
pub walk_append : (sh : Sheet) (m : ℕ) (X Y : ℕ → Type 0) (first second : List Move) (s : ℕ) → ((t : ℕ) → Y t → Walk sh m X first t) → Walk sh m Y second s → Walk sh m X (first ++ second) s
walk_append sh m X Y first second s before w =
    let v = before w.from w.inside in
    record {
      from = v.from;
      inside = v.inside;
      path = v.path ++ w.path;
      leads = path_append sh v.from v.path w.path v.leads (subst (λ (n : ℕ). PathFrom sh n w.path) (sym v.ends) w.leads);
      shares = moves_append m v.path w.path ∙ ap₂ (λ (x y : List Move). x ++ y) v.shares w.shares;
      ends = end_append v.from v.path w.path ∙ ap (λ (n : ℕ). end_of n w.path) v.ends ∙ w.ends;
    }

-- one place more, in which the role takes no part
walk_on : (sh : Sheet) (m : ℕ) (X : ℕ → Type 0) (vs : List Move) (p : Place) → Has sh p → turn m p ≡ [] → Walk sh m X vs p.state → (s : ℕ) → p.branch.next ≡ s → Walk sh m X vs s
walk_on sh m X vs p hp t w s e = record {
  from = w.from;
  inside = w.inside;
  path = w.path ++ (p ∷ []);
  leads = path_append sh w.from w.path (p ∷ []) w.leads (hp, sym w.ends, tt);
  shares = moves_append m w.path (p ∷ []) ∙ ap₂ (λ (x : List Move) (y : List Action). x ++ moves (y ++ [])) w.shares t ∙ append-nil vs;
  ends = end_append w.from w.path (p ∷ []) ∙ e;
}

pub silent_walk : (sh : Sheet) (m : ℕ) (X : ℕ → Type 0) (s : ℕ) → Silent sh m X s → Walk sh m X [] s
silent_walk sh m X s (here x) = record { from = s; inside = x; path = []; leads = tt; shares = refl; ends = refl }
silent_walk sh m X s (on p hp x t q) = walk_on sh m X [] p hp t (silent_walk sh m X p.state x) s q

pub led_walk : (sh : Sheet) (m : ℕ) (X : ℕ → Type 0) (l t : ℕ) (x : Led sh m X l t) → Walk sh m X (move x.action ∷ []) t
led_walk sh m X l t x = record {
  from = x.state;
  inside = x.inside;
  path = x.step.place ∷ [];
  leads = (x.step.has, x.step.at, tt);
  shares = ap (λ (z : List Action). moves (z ++ [])) x.step.acts;
  ends = x.step.leads;
}
