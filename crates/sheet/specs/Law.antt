-- Meaning: what the order of refusals has to do with the format.
use Rattle.std.specs.Prelude.{◌≡◌, ℕ, ◌<◌, ◌↔◌, List, None}
use Rattle.std.specs.List.{AllByRecursion}
use Rattle.sheet.specs.Decode.{model}
use Rattle.sheet.specs.Encode.{encode}
use Rattle.sheet.specs.Model.{Sheet}
use Rattle.sheet.specs.Refuse.{fault}
use Rattle.sheet.specs.Valid.{Valid}

abbrev pub Bytes : List ℕ → Type 0
Bytes = AllByRecursion (λ b. b < 256)

-- the bytes of a valid sheet
pub record Encodes (bytes : List ℕ) (sh : Sheet) : Type 0 where
  pub valid : Valid sh
  pub bytes_are : encode sh ≡ bytes

-- bytes have no fault exactly when they are the encoding of a valid sheet
abbrev pub RefusalsExact : Type 0
RefusalsExact = (bytes : List ℕ) → Bytes bytes → (fault bytes ≡ None) ↔ ((sh : Sheet) × Encodes bytes sh)

-- what is read from a valid sheet's encoding is that sheet
abbrev pub EncodingFaithful : Type 0
EncodingFaithful = (sh : Sheet) → Valid sh → model (encode sh) ≡ sh
