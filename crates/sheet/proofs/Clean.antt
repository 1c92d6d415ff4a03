-- What a reader may take from bytes that have no fault.
use Rattle.std.proofs.Common.{◌≡◌, ℕ, ◌+◌, ◌-◌, ◌*◌, ◌<◌, ◌≤◌, true, List, map, length, get_or, take, drop, None, sum_by, ap, ◌∙◌, arith}
use Rattle.std.specs.List.{flat_map}
use Rattle.std.proofs.lemmas.List.{length-drop, length-map, length-take-le, get_or-map}
use Rattle.std.proofs.ByRecursion.{All-weaker, sum_by_le}
use Rattle.std.proofs.lemmas.List.Concat.{length-flat_map}
use Rattle.std.proofs.lemmas.List.Sums.{sum_by-take-drop}
use Rattle.std.proofs.lemmas.Bool.{lt-ltb, le-ltb}
use Rattle.std.proofs.lemmas.Bool.Decides.{when_true, when_false}
use Rattle.sheet.specs.Valid.{Between}
use Rattle.sheet.specs.Encode.{pieces, begin}
use Rattle.sheet.specs.declared.span.Span.{Span}
use Rattle.sheet.specs.Decode.{counts, name_count_of, piece_count_in, table, cut, model}
use Rattle.sheet.specs.Refuse.{state_size, fault}
use Rattle.sheet.proofs.Checks.{BodySize, decides_state_size}
use Rattle.sheet.proofs.Spans.{tiled_at, joined_from_tiled, length-table}
use Rattle.sheet.proofs.Sizes.{PieceSize, sized_at}
use Rattle.sheet.proofs.Pieces.{cuts, length-cuts}
use Rattle.sheet.proofs.Whole.{Whole, clear_fault, name_lengths, state_lengths, pieces_model}

module _ (bytes : List ℕ) (clean : fault bytes ≡ None) where
  whole : Whole bytes
  whole = (clear_fault bytes).0 clean

  -- the header and its pairs are there
  pub pairs_there : begin (piece_count_in (counts bytes)) ≤ length bytes
  pairs_there = whole.room

  pub piece_begins : (i : ℕ) → i < piece_count_in (counts bytes) → (d : Span) → (get_or (table bytes) i d).offset ≡ begin (piece_count_in (counts bytes)) + length (flat_map (λ p. p) (take i (map (cut bytes) (table bytes))))
  piece_begins i h d = (tiled_at bytes (begin (piece_count_in (counts bytes))) (table bytes) whole.tiled i (omega (arith, length-table bytes)) d).0

  pub piece_ends : (i : ℕ) → i < piece_count_in (counts bytes) → (d : Span) → (get_or (table bytes) i d).offset + (get_or (table bytes) i d).size ≤ length bytes
  piece_ends i h d = (tiled_at bytes (begin (piece_count_in (counts bytes))) (table bytes) whole.tiled i (omega (arith, length-table bytes)) d).1

  piece_size : (i : ℕ) → i < piece_count_in (counts bytes) → (d : Span) → PieceSize (name_count_of (counts bytes)) i (get_or (table bytes) i d).size
  piece_size i h d =
      let inside : i < length (table bytes) = omega (arith, length-table bytes) in
      let size : get_or (map (λ s. s.size) (table bytes)) i 0 ≡ (get_or (table bytes) i d).size = get_or-map (λ (s : Span). s.size) (table bytes) i d 0 inside in
      let place : 0 + i ≡ i = omega arith in
      rw (size, place) at (sized_at (name_count_of (counts bytes)) 0 (map (λ s. s.size) (table bytes)) whole.sized i (rw length-map inside))

  pub name_size_lem : (i : ℕ) → i < name_count_of (counts bytes) → (d : Span) → Between 1 12 (get_or (table bytes) i d).size
  name_size_lem i h d =
      when_true (Between 1 12 (get_or (table bytes) i d).size) (BodySize (get_or (table bytes) i d).size) (lt-ltb i (name_count_of (counts bytes)) h) (piece_size i (omega arith) d)

  pub state_size_lem : (i : ℕ) → name_count_of (counts bytes) ≤ i → i < piece_count_in (counts bytes) → (d : Span) → state_size (get_or (table bytes) i d).size ≡ true
  state_size_lem i l h d =
      (decides_state_size (get_or (table bytes) i d).size).1
      (when_false (Between 1 12 (get_or (table bytes) i d).size) (BodySize (get_or (table bytes) i d).size) (le-ltb i (name_count_of (counts bytes)) l) (piece_size i h d))

  pub pieces_read : pieces (model bytes) ≡ map (cut bytes) (table bytes)
  pieces_read = pieces_model bytes whole

  pub length_whole : length bytes ≡ begin (piece_count_in (counts bytes)) + length (flat_map (λ p. p) (map (cut bytes) (table bytes)))
  length_whole =
      let rest : length (flat_map (λ p. p) (cuts bytes)) ≡ length bytes - begin (piece_count_in (counts bytes)) = ap length (joined_from_tiled bytes (begin (piece_count_in (counts bytes))) (table bytes) whole.tiled) ∙ length-drop (begin (piece_count_in (counts bytes))) bytes in
      omega (arith, whole.room)

  -- 6 + 32 names of 12 bytes, 64 states of 42, and a pair for each
  pub length-bound : length bytes ≤ 3557
  length-bound =
      let n : ℕ = name_count_of (counts bytes) in
      let ps : List (List ℕ) = cuts bytes in
      let names : sum_by length (take n ps) ≤ length (take n ps) * 12 = sum_by_le length 12 (take n ps) (All-weaker _ (λ p. length p ≤ 12) (λ p h. h.1) (take n ps) (name_lengths bytes whole)) in
      let states : sum_by length (drop n ps) ≤ length (drop n ps) * 42 = sum_by_le length 42 (drop n ps) (All-weaker _ (λ p. length p ≤ 42) (λ p h. omega arith) (drop n ps) (state_lengths bytes whole)) in
      omega (arith, names, states, length_whole, length-flat_map (λ p. p) ps, sum_by-take-drop length ps n, length-take-le n ps (omega (arith, length-cuts bytes)), length-drop n ps, length-cuts bytes, whole.good_counts)
