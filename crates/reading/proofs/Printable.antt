-- The first byte of a name that is not printable.
use Rattle.std.proofs.Common.{◌≡◌, ℕ, ◌+◌, Bool, true, false, not, cond, List, [], ◌∷◌, Some, Option, sym, refl, ap, ◌∙◌, arith}
use Rattle.std.specs.List.{position_from}
use Rattle.std.specs.Option.{option_map}
use Rattle.sheet.specs.declared.fault.ReadFault.{ReadFault}
use Rattle.sheet.specs.declared.fault.ReadFault.TheVariants.{Byte}
use Rattle.sheet.specs.Refuse.{unless, first, within, byte_fault}

-- a byte that no name may have
abbrev pub odd : ℕ → Bool
odd b = not (within 0x21 0x7E b)

step : (offset i : ℕ) (good : Bool) (later : Option ReadFault) (next : Option ℕ) → later ≡ option_map (λ k. Byte (offset + k)) next
    → first (unless good (Byte (offset + i))) later ≡ option_map (λ k. Byte (offset + k)) (cond (not good) (Some i) next)
step offset i true later next e = e
step offset i false later next e = refl

from : (offset i : ℕ) (name : List ℕ) → byte_fault (offset + i) name ≡ option_map (λ k. Byte (offset + k)) (position_from odd i name)
from offset i [] = refl
from offset i (b ∷ bs) =
    let next : offset + i + 1 ≡ offset + (i + 1) = omega arith in
    step offset i (within 0x21 0x7E b) (byte_fault (offset + i + 1) bs) (position_from odd (i + 1) bs) (ap (λ o. byte_fault o bs) next ∙ from offset (i + 1) bs)

pub byte_first : (offset : ℕ) (name : List ℕ) (found : Option ℕ) → found ≡ position_from odd 0 name → byte_fault offset name ≡ option_map (λ k. Byte (offset + k)) found
byte_first offset name found e =
    let start : offset ≡ offset + 0 = omega arith in
    ap (λ o. byte_fault o name) start ∙ from offset 0 name ∙ ap (option_map (λ k. Byte (offset + k))) (sym e)
