-- Meaning: bytes that are long enough for the pairs that they announce.
use Rattle.std.specs.Prelude.{◌≡◌, ℕ, ◌≤◌, List, length, None}
use Rattle.sheet.specs.declared.span.Span.{Span}
use Rattle.sheet.specs.Decode.{counts, piece_count_in}
use Rattle.sheet.specs.Encode.{begin}
use Rattle.sheet.specs.Refuse.{table_fault}

abbrev pub Paired : List ℕ → Type 0
Paired bytes = begin (piece_count_in (counts bytes)) ≤ length bytes

-- bytes whose pairs tile them: each piece begins where the one before ends, and lies within the bytes
pub record Tiled (bytes : List ℕ) : Type 0 where
  pub paired : Paired bytes
  pub tiled : table_fault bytes ≡ None

abbrev pub nowhere : Span
nowhere = record { offset = 0; size = 0 }
