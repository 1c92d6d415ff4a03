-- `spread` finds just what can be reached.
use Rattle.std.proofs.Common.{◌≡◌, ℕ, zero, suc, ◌+◌, ◌<◌, ◌≤◌, Bool, true, false, cond, not, ◌||◌, eqb, ◌⊎◌, List, [], ◌∷◌, length, Decides, sym, refl, ap, ◌∙◌, subst, inl, inr, arith}
use mathlib.Core.List.{Memᴰ}
use Rattle.std.proofs.lemmas.Bool.{eq-eqb, eqb-true, cases_Bool, cond-true, cond-false, and_parts, and_from, and_right, not_from_true, or_cases, or_right, or_left, not-true, not_from_false, both_ways}
use Rattle.parting.specs.Masks.{has, add, In}
use Rattle.parting.specs.declared.edge.Edge.{Edge}
use Rattle.parting.specs.Spread.{Reach, start, along, leaves, grow, fill, spread}
use Rattle.parting.proofs.Bits.{has_add}

-- with the start of each edge, its end
abbrev pub Closed : ℕ → List Edge → Type 0
Closed X es = (e : Edge) → Memᴰ e es → In X e.from → In X e.to

abbrev Still : ℕ → List Edge → Type 0
Still X es = (e : Edge) → Memᴰ e es → leaves X e ≡ false

pub data Grown (X : ℕ) (es : List Edge) : Type 0 where
  whole : Still X es → grow X es ≡ X → Grown X es
  more : (e : Edge) → Memᴰ e es → leaves X e ≡ true → grow X es ≡ add e.to X → Grown X es

grown : (X : ℕ) (es : List Edge) → Grown X es
unfolding grow
grown X [] = whole (λ e i. elim i [ ]) refl
grown X (e ∷ es) = go (cases_Bool (leaves X e)) (grown X es)
  where
    go : (leaves X e ≡ true) ⊎ (leaves X e ≡ false) → Grown X es → Grown X (e ∷ es)
    go (inl y) _ = more e (Memᴰ.head refl) y (cond-true (leaves X e) (add e.to X) (grow X es) y)
    go (inr n) (more f i y q) = more f (Memᴰ.tail i) y (cond-false (leaves X e) (add e.to X) (grow X es) n ∙ q)
    go (inr n) (whole c q) = whole all (cond-false (leaves X e) (add e.to X) (grow X es) n ∙ q)
      where
        all : Still X (e ∷ es)
        all f (Memᴰ.head r) = rw r n
        all f (Memᴰ.tail i) = c f i

-- how many edges end outside X
lacking : ℕ → List Edge → ℕ
lacking X [] = 0
lacking X (e ∷ es) = cond (has X e.to) 0 1 + lacking X es

one_less : (X t u : ℕ) → cond (has (add t X) u) 0 1 ≤ cond (has X u) 0 1
one_less X t u = rw (has_add t X u) (go (eqb u t) (has X u))
  where
    go : (a b : Bool) → cond (a || b) 0 1 ≤ cond b 0 1
    go true b = omega arith
    go false b = omega arith

lacking_less : (X t : ℕ) (es : List Edge) → lacking (add t X) es ≤ lacking X es
unfolding lacking
lacking_less X t [] = omega arith
lacking_less X t (e ∷ es) = omega (arith, one_less X t e.to, lacking_less X t es)

lacking_fewer : (X : ℕ) (es : List Edge) (e : Edge) → Memᴰ e es → has X e.to ≡ false → lacking (add e.to X) es < lacking X es
unfolding lacking
lacking_fewer X [] e i n = elim i [ ]
lacking_fewer X (f ∷ es) e (Memᴰ.head q) n =
    let y : has (add e.to X) f.to ≡ true = has_add e.to X f.to ∙ or_left (eqb f.to e.to) (has X f.to) (eq-eqb f.to e.to (ap (λ (g : Edge). g.to) (sym q))) in
    let z : has X f.to ≡ false = rw q at n in
    rw (y, z) (omega (arith, lacking_less X e.to es))
lacking_fewer X (f ∷ es) e (Memᴰ.tail i) n = omega (arith, one_less X e.to f.to, lacking_fewer X es e i n)

lacking_all : (X : ℕ) (es : List Edge) → lacking X es ≤ length es
unfolding lacking
lacking_all X [] = omega arith
lacking_all X (e ∷ es) = omega (arith, one (has X e.to), lacking_all X es)
  where
    one : (b : Bool) → cond b 0 1 ≤ 1
    one true = omega arith
    one false = omega arith

stays : (n X : ℕ) (es : List Edge) → grow X es ≡ X → fill n es X ≡ X
unfolding fill
stays zero X es q = refl
stays (suc n) X es q = ap (fill n es) q ∙ stays n X es q

leaves_parts : (X : ℕ) (e : Edge) → leaves X e ≡ true → In X e.from × (has X e.to ≡ false)
unfolding leaves
leaves_parts X e q = let p = and_parts (has X e.from) (not (has X e.to)) q in (p.0, not-true (has X e.to) p.1)

leaves_not : (X : ℕ) (e : Edge) → In X e.to → leaves X e ≡ false
unfolding leaves
leaves_not X e q = and_right (has X e.from) (not (has X e.to)) (not_from_true (has X e.to) q)

leaves_so : (X : ℕ) (e : Edge) → In X e.from → has X e.to ≡ false → leaves X e ≡ true
unfolding leaves
leaves_so X e x n = and_from (has X e.from) (not (has X e.to)) x (not_from_false (has X e.to) n)

fill_closed : (n X : ℕ) (es : List Edge) → lacking X es ≤ n → Still (fill n es X) es
unfolding fill
fill_closed zero X es l e i = go (cases_Bool (has X e.to))
  where
    go : (has X e.to ≡ true) ⊎ (has X e.to ≡ false) → leaves X e ≡ false
    go (inl y) = leaves_not X e y
    go (inr n) = absurd (let z : lacking (add e.to X) es < lacking X es = lacking_fewer X es e i n in omega arith)
fill_closed (suc n) X es l e i = go (λ Z k. fill_closed n Z es k e i) (grown X es)
  where
    go : ((Z : ℕ) → lacking Z es ≤ n → leaves (fill n es Z) e ≡ false) → Grown X es → leaves (fill n es (grow X es)) e ≡ false
    go below (whole c q) = subst (λ (Z : ℕ). leaves Z e ≡ false) (sym (ap (fill n es) q ∙ stays n X es q)) (c e i)
    go below (more f j y q) =
        let z : lacking (add f.to X) es < lacking X es = lacking_fewer X es f j (leaves_parts X f y).1 in
        rw q (below (add f.to X) (omega arith))

add_old : (t X s : ℕ) → In X s → In (add t X) s
add_old t X s q = has_add t X s ∙ or_right (eqb s t) (has X s) q

grow_within : (X : ℕ) (es : List Edge) (s : ℕ) → In X s → In (grow X es) s
grow_within X es s x = go (grown X es)
  where
    go : Grown X es → In (grow X es) s
    go (whole c q) = rw q x
    go (more f j y q) = rw q (add_old f.to X s x)

fill_within : (n X : ℕ) (es : List Edge) (s : ℕ) → In X s → In (fill n es X) s
unfolding fill
fill_within zero X es s x = x
fill_within (suc n) X es s x = fill_within n (grow X es) es s (grow_within X es s x)

module _ (es : List Edge) (Y : ℕ → Type 0) where
  grow_reach : (X : ℕ) → ((s : ℕ) → In X s → Reach es Y s) → (s : ℕ) → In (grow X es) s → Reach es Y s
  grow_reach X r s x = go (grown X es)
    where
      from_add : (f : Edge) → Memᴰ f es → leaves X f ≡ true → (eqb s f.to ≡ true) ⊎ (has X s ≡ true) → Reach es Y s
      from_add f j y (inl q) = along f j (r f.from (leaves_parts X f y).0) (sym (eqb-true s f.to q))
      from_add f j y (inr q) = r s q

      go : Grown X es → Reach es Y s
      go (whole c q) = r s (rw q at x)
      go (more f j y q) = from_add f j y (or_cases (eqb s f.to) (has X s) (sym (has_add f.to X s) ∙ (rw q at x)))

  fill_reach : (n X : ℕ) → ((s : ℕ) → In X s → Reach es Y s) → (s : ℕ) → In (fill n es X) s → Reach es Y s
  unfolding fill
  fill_reach zero X r s x = r s x
  fill_reach (suc n) X r s x = fill_reach n (grow X es) (grow_reach X r) s x

-- where no edge leads out, each has its end in, whose start is in
closed_from_still : (X : ℕ) (es : List Edge) → Still X es → Closed X es
closed_from_still X es c e i x = go (cases_Bool (has X e.to))
  where
    go : (has X e.to ≡ true) ⊎ (has X e.to ≡ false) → In X e.to
    go (inl y) = y
    go (inr n) = absurd (both_ways (leaves X e) (c e i) (leaves_so X e x n))

pub reach_in : (es : List Edge) (Y : ℕ → Type 0) (X : ℕ) → Closed X es → ((s : ℕ) → Y s → In X s) → (s : ℕ) → Reach es Y s → In X s
reach_in es Y X c w s (start y) = w s y
reach_in es Y X c w s (along e i r q) = subst (In X) q (c e i (reach_in es Y X c w e.from r))

-- the bits of `spread` are what can be reached from those of X
pub spread_decides : (es : List Edge) (X s : ℕ) → Decides (has (spread es X) s) (Reach es (λ t. has X t ≡ true) s)
unfolding spread
spread_decides es X s = (
  fill_reach es (λ t. has X t ≡ true) (length es) X (λ t x. start x) s,
  reach_in es (λ t. has X t ≡ true) (fill (length es) es X) (closed_from_still (fill (length es) es X) es (fill_closed (length es) X es (lacking_all X es))) (λ t x. fill_within (length es) X es t x) s,
)
