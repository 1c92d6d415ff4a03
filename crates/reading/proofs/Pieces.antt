-- Where the pieces of tiled bytes lie.
use Rattle.std.proofs.Common.{◌≡◌, ℕ, suc, ◌+◌, ◌-◌, ◌<◌, ◌≤◌, List, ◌∷◌, length, get_or, Option, sym, ap, ◌∙◌, arith}
use Rattle.std.specs.List.{between}
use Rattle.std.proofs.lemmas.List.{drop_more}
use Rattle.sheet.specs.declared.fault.ReadFault.{ReadFault}
use Rattle.sheet.specs.declared.span.Span.{Span}
use Rattle.sheet.specs.Decode.{counts, name_count_of, piece_count_in, table, cut}
use Rattle.sheet.specs.Encode.{begin}
use Rattle.sheet.proofs.Sizes.{clear_pairs}
use Rattle.sheet.proofs.Spans as spans
use Rattle.reading.specs.Places.{Tiled, nowhere}

pub tiled : (bytes : List ℕ) → Tiled bytes → spans.Tiled (length bytes) (begin (piece_count_in (counts bytes))) (table bytes)
tiled bytes t = ((clear_pairs (length bytes) (name_count_of (counts bytes)) 0 (begin (piece_count_in (counts bytes))) (table bytes)).0 t.tiled).0

pub piece_within : (bytes : List ℕ) → Tiled bytes → (pair : ℕ) → pair < piece_count_in (counts bytes)
    → (get_or (table bytes) pair nowhere).offset + (get_or (table bytes) pair nowhere).size ≤ length bytes
piece_within bytes t pair h =
    let within : pair < length (table bytes) = omega (arith, spans.length-table bytes) in
    (spans.tiled_at bytes (begin (piece_count_in (counts bytes))) (table bytes) (tiled bytes t) pair within nowhere).1

-- a part of a list by its first element, where it has one
pub between_first : {X : Type 0} (xs : List X) (i j : ℕ) (d : X) → i < j → i < length xs → between i j xs ≡ get_or xs i d ∷ between (i + 1) j xs
between_first xs i j d h k =
    let n : j - i ≡ suc (j - (i + 1)) = omega arith in
    rw (drop_more xs i d k, n)

-- what a check of a piece and its offset answered is what it answers at the pair's span
pub judged_at : (check : ℕ → List ℕ → Option ReadFault) (bytes : List ℕ) (ss : List Span) (pair offset : ℕ) (piece : List ℕ) (found : Option ReadFault)
    → offset ≡ (get_or ss pair nowhere).offset → piece ≡ cut bytes (get_or ss pair nowhere) → found ≡ check offset piece
    → check (get_or ss pair nowhere).offset (cut bytes (get_or ss pair nowhere)) ≡ found
judged_at check bytes ss pair offset piece found o p e = sym (e ∙ ap (λ x. check x piece) o ∙ ap (check (get_or ss pair nowhere).offset) p)
