-- The checks of names, one name at a time.
use Rattle.std.proofs.Common.{◌≡◌, ℕ, zero, suc, ◌+◌, ◌-◌, ◌<◌, ◌≤◌, true, false, ◌||◌, List, [], ◌∷◌, ◌++◌, map, length, get_or, take, drop, Some, None, refl, ap, ◌∙◌, arith}
use Rattle.std.specs.List.{between, list_any, range_with_len}
use Rattle.std.proofs.lemmas.List.Edits.{between_more}
use Rattle.std.proofs.lemmas.List.{map_push, drop_more}
use Rattle.sheet.specs.declared.fault.ReadFault.{ReadFault}
use Rattle.sheet.specs.declared.fault.ReadFault.TheVariants.{Twice}
use Rattle.sheet.specs.declared.span.Span.{Span}
use Rattle.sheet.specs.Decode.{cut}
use Rattle.sheet.specs.Model.{Name}
use Rattle.sheet.specs.Names.{same}
use Rattle.sheet.specs.Refuse.{among, byte_fault, name_fault}
use Rattle.reading.specs.Places.{nowhere}
use Rattle.reading.proofs.Pieces.{between_first}

-- a name among those of the n pairs from i on, as a test of the pairs' numbers
pub among_pairs : (bytes : List ℕ) (ss : List Span) (name : Name) (i n : ℕ) → n ≤ length ss - i
    → list_any (λ j. same name (cut bytes (get_or ss j nowhere))) (range_with_len i n) ≡ among name (map (cut bytes) (take n (drop i ss)))
among_pairs bytes ss name i zero h = refl
among_pairs bytes ss name i (suc n) h =
    let here : i < length ss = omega arith in
    let rest = among_pairs bytes ss name (i + 1) n (omega arith) in
    rw (drop_more ss i nowhere here) (ap (λ t. same name (cut bytes (get_or ss i nowhere)) || t) rest)

module _ (bytes : List ℕ) (ss : List Span) (i end : ℕ) (h : i < end) (k : i < length ss) where
  module _ (earlier : List Name) where
    pub name_byte : (f : ReadFault) → byte_fault (get_or ss i nowhere).offset (cut bytes (get_or ss i nowhere)) ≡ Some f
        → name_fault bytes i earlier (between i end ss) ≡ Some f
    name_byte f e = rw (between_first ss i end nowhere h k, e)

    pub name_twice : byte_fault (get_or ss i nowhere).offset (cut bytes (get_or ss i nowhere)) ≡ None → among (cut bytes (get_or ss i nowhere)) earlier ≡ true
        → name_fault bytes i earlier (between i end ss) ≡ Some (Twice i)
    name_twice e t = rw (between_first ss i end nowhere h k, e, t)

    pub name_more : byte_fault (get_or ss i nowhere).offset (cut bytes (get_or ss i nowhere)) ≡ None → among (cut bytes (get_or ss i nowhere)) earlier ≡ false
        → name_fault bytes i earlier (between i end ss) ≡ name_fault bytes (i + 1) (earlier ++ cut bytes (get_or ss i nowhere) ∷ []) (between (i + 1) end ss)
    name_more e t = rw (between_first ss i end nowhere h k, e, t)

pub earlier_more : (bytes : List ℕ) (ss : List Span) (from i : ℕ) → from ≤ i → i < length ss
    → map (cut bytes) (between from (i + 1) ss) ≡ map (cut bytes) (between from i ss) ++ cut bytes (get_or ss i nowhere) ∷ []
earlier_more bytes ss from i h k = ap (map (cut bytes)) (between_more ss from i nowhere h k) ∙ map_push (cut bytes) (between from i ss) (get_or ss i nowhere)
