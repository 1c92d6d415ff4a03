-- What the pairs have to say: each piece begins where the one before ends, the last ends with the sheet, and names and
-- states have the lengths that are allowed.
use Rattle.std.proofs.Common.{◌≡◌, ℕ, zero, suc, ◌+◌, ◌-◌, ◌<◌, ◌≤◌, Bool, true, false, cond, eqb, ltb, List, [], ◌∷◌, map, length, get_or, take, drop, Decides, MatchBool, arith}
use Rattle.std.specs.List.{AllByRecursion}
use Rattle.std.proofs.lemmas.Bool.{lt-ltb, le-ltb}
use Rattle.std.proofs.lemmas.Bool.Decides.{Decides-and, Decides-eqb, when_true, when_false}
use Rattle.sheet.specs.declared.fault.ReadFault.TheVariants.{Pair}
use Rattle.sheet.specs.declared.span.Span.{Span}
use Rattle.sheet.specs.Refuse.{name_size, state_size, placed, pair_fault}
use Rattle.sheet.specs.Valid.{Between}
use Rattle.sheet.proofs.Checks.{Clear, clear_unless, clear_first, clear_like, decides_leb, decides_within, BodySize, decides_state_size}
use Rattle.sheet.proofs.Spans.{Tiled}

-- the length of piece i, where the pieces below `names` are names
abbrev pub PieceSize : ℕ → ℕ → ℕ → Type 0
PieceSize names i n = MatchBool (ltb i names) (Between 1 12 n) (BodySize n)

-- the lengths from piece i on
abbrev pub Sized : ℕ → ℕ → List ℕ → Type 0
Sized names i [] = Unit {0}
Sized names i (n ∷ ns) = PieceSize names i n × Sized names (i + 1) ns

pub sized_at : (names i : ℕ) (ns : List ℕ) → Sized names i ns → (j : ℕ) → j < length ns → PieceSize names (i + j) (get_or ns j 0)
sized_at names i [] z j h = absurd (omega arith)
sized_at names i (n ∷ ns) z zero h = let e : i + 0 ≡ i = omega arith in rw e z.0
sized_at names i (n ∷ ns) z (suc j) h = let e : i + suc j ≡ i + 1 + j = omega arith in rw e (sized_at names (i + 1) ns z.1 j (omega arith))

-- k names are left, and then states
pub sizes_from_sized : (names i k : ℕ) (ns : List ℕ) → names - i ≡ k → Sized names i ns → AllByRecursion (Between 1 12) (take k ns) × AllByRecursion BodySize (drop k ns)
sizes_from_sized names i zero [] e z = (tt, tt)
sizes_from_sized names i (suc k) [] e z = (tt, tt)
sizes_from_sized names i zero (n ∷ ns) e z =
    let rest = sizes_from_sized names (i + 1) zero ns (omega arith) z.1 in
    (tt, (when_false (Between 1 12 n) (BodySize n) (le-ltb i names (omega arith)) z.0, rest.1))
sizes_from_sized names i (suc k) (n ∷ ns) e z =
    let rest = sizes_from_sized names (i + 1) k ns (omega arith) z.1 in
    ((when_true (Between 1 12 n) (BodySize n) (lt-ltb i names (omega arith)) z.0, rest.0), rest.1)

pub sized_from_sizes : (names i k : ℕ) (ns : List ℕ) → names - i ≡ k → AllByRecursion (Between 1 12) (take k ns) → AllByRecursion BodySize (drop k ns) → Sized names i ns
sized_from_sizes names i k [] e a b = tt
sized_from_sizes names i zero (n ∷ ns) e a b =
    let above : ltb i names ≡ false = le-ltb i names (omega arith) in
    (rw above b.0, sized_from_sizes names (i + 1) zero ns (omega arith) tt b.1)
sized_from_sizes names i (suc k) (n ∷ ns) e a b =
    let below : ltb i names ≡ true = lt-ltb i names (omega arith) in
    (rw below a.0, sized_from_sizes names (i + 1) k ns (omega arith) a.1 b)

decides_size : (named : Bool) (n : ℕ) → Decides (cond named (name_size n) (state_size n)) (MatchBool named (Between 1 12 n) (BodySize n))
decides_size true n = decides_within 1 12 n
decides_size false n = decides_state_size n

decides_placed : (limit names i at : ℕ) (s : Span) → Decides (placed limit (ltb i names) at s) ((s.offset ≡ at) × (PieceSize names i s.size × (at + s.size ≤ limit)))
unfolding placed
decides_placed limit names i at s =
    Decides-and _ _ (Decides-eqb s.offset at) (Decides-and _ _ (decides_size (ltb i names) s.size) (decides_leb (at + s.size) limit))

pub clear_pairs : (limit names i at : ℕ) (ss : List Span) → Clear (pair_fault limit names i at ss) (Tiled limit at ss × Sized names i (map (λ s. s.size) ss))
clear_pairs limit names i at [] = clear_like _ (λ e. (e, tt)) (λ h. h.0) (clear_unless (eqb at limit) (Pair i) (Decides-eqb at limit))
clear_pairs limit names i at (s ∷ ss) =
    clear_like _
    (λ h. ((h.0.0, (h.0.1.1, h.1.0)), (h.0.1.0, h.1.1)))
    (λ h. ((h.0.0, (h.1.0, h.0.1.0)), (h.0.1.1, h.1.1)))
    (clear_first _ _ (clear_unless _ (Pair i) (decides_placed limit names i at s)) (clear_pairs limit names (i + 1) (at + s.size) ss))
