-- Meaning: what a sheet that has been read stands for.
use Rattle.std.specs.Prelude.{◌≡◌, ℕ, List}
use Rattle.sheet.specs.Decode.{model}
use Rattle.sheet.specs.Law.{Encodes}
use Rattle.sheet.specs.Model.{Sheet}
use Rattle.reading.specs.declared.read_sheet.ReadSheet.{ReadSheet}

abbrev pub bytes_of : ReadSheet → List ℕ
bytes_of s = s.bytes.items

-- the sheet that it stands for
abbrev pub sheet_of : ReadSheet → Sheet
sheet_of s = model (bytes_of s)

-- it has these bytes, they encode the sheet that it stands for, and they encode no other
pub record Reads (bytes : List ℕ) (s : ReadSheet) : Type 0 where
  pub bytes_are : bytes_of s ≡ bytes
  pub encodes : Encodes bytes (sheet_of s)
  pub only : (sh : Sheet) → Encodes bytes sh → sh ≡ sheet_of s
