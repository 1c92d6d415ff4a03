-- A sheet and its pieces, each from the other.
use Rattle.std.proofs.Common.{◌≡◌, ℕ, ◌+◌, ◌*◌, List, ◌++◌, map, length, take, drop, sym, refl, ap, ◌∙◌, arith}
use mathlib.Core.List.{map-map}
use Rattle.std.specs.List.{flat_map, AllByRecursion}
use Rattle.std.proofs.lemmas.List.{length-append, length-map, length-drop, length-take-le, take-append-drop, drop-drop, take_at, drop_at, take-map, drop-map}
use Rattle.sheet.specs.declared.counts.Counts.{Counts}
use Rattle.sheet.specs.Model.{Sheet}
use Rattle.sheet.specs.Encode.{body, pieces, pairs, begin, encode}
use Rattle.sheet.specs.declared.span.Span.{Span}
use Rattle.sheet.specs.Decode.{counts, name_count_of, piece_count_in, table, cut, state_of, state_at, model}
use Rattle.sheet.proofs.Checks.{BodySize}
use Rattle.sheet.proofs.Bodies.{map-body_state_of, map-state_of_body}
use Rattle.sheet.proofs.Spans.{laid, spans_written, pairs_written, length_pairs, length-laid, length-table, cut_laid}
use Rattle.sheet.proofs.StateRules.{Counted}

-- the pieces that bytes hold
abbrev pub cuts : List ℕ → List (List ℕ)
cuts bytes = map (cut bytes) (table bytes)

-- the sheet with those pieces
abbrev pub parted : Counts → List (List ℕ) → Sheet
parted c ps = record {
  roles = take c.roles ps;
  labels = take c.labels (drop c.roles ps);
  states = map state_of (drop (name_count_of c) ps);
  rows = c.rows;
}

pub model_parted : (bytes : List ℕ) → model bytes ≡ parted (counts bytes) (cuts bytes)
unfolding model
model_parted bytes =
    let c : Counts = counts bytes in
    let ss : List Span = table bytes in
    let rs : take c.roles (map (cut bytes) ss) ≡ map (cut bytes) (take c.roles ss) = take-map (cut bytes) c.roles ss in
    let ls : take c.labels (drop c.roles (map (cut bytes) ss)) ≡ map (cut bytes) (take c.labels (drop c.roles ss)) = ap (take c.labels) (drop-map (cut bytes) c.roles ss) ∙ take-map (cut bytes) c.labels (drop c.roles ss) in
    let sts : map state_of (drop (name_count_of c) (map (cut bytes) ss)) ≡ map (state_at bytes) (drop (name_count_of c) ss) = ap (map state_of) (drop-map (cut bytes) (name_count_of c) ss) ∙ map-map state_of (cut bytes) (drop (name_count_of c) ss) in
    rw (rs, ls, sts)

pub pieces_parted : (c : Counts) (ps : List (List ℕ)) → AllByRecursion (λ p. BodySize (length p)) (drop (name_count_of c) ps) → pieces (parted c ps) ≡ ps
pieces_parted c ps h =
    rw (map-body_state_of (drop (name_count_of c) ps) h, ← drop-drop c.labels c.roles ps, take-append-drop c.labels (drop c.roles ps), take-append-drop c.roles ps)

pub parted_pieces : (sh : Sheet) (c : Counts) → Counted sh c → parted c (pieces sh) ≡ sh
parted_pieces sh c k =
    let bodies : List (List ℕ) = map body sh.states in
    let rs : take c.roles (pieces sh) ≡ sh.roles = take_at sh.roles (sh.labels ++ bodies) c.roles k.roles in
    let rest : drop c.roles (pieces sh) ≡ sh.labels ++ bodies = drop_at sh.roles (sh.labels ++ bodies) c.roles k.roles in
    let ls : take c.labels (drop c.roles (pieces sh)) ≡ sh.labels = ap (take c.labels) rest ∙ take_at sh.labels bodies c.labels k.labels in
    let end : drop (name_count_of c) (pieces sh) ≡ bodies = sym (drop-drop c.labels c.roles (pieces sh)) ∙ ap (drop c.labels) rest ∙ drop_at sh.labels bodies c.labels k.labels in
    let sts : map state_of (drop (name_count_of c) (pieces sh)) ≡ sh.states = ap (map state_of) end ∙ map-state_of_body sh.states in
    rw (rs, ls, sts, ← k.rows)

pub counted_parted : (c : Counts) (ps : List (List ℕ)) → length ps ≡ piece_count_in c → Counted (parted c ps) c
counted_parted c ps e = record {
  roles = length-take-le c.roles ps (omega arith);
  labels = length-take-le c.labels (drop c.roles ps) (rw length-drop (omega arith));
  states = length-map (drop (name_count_of c) ps) state_of ∙ length-drop (name_count_of c) ps ∙ (omega arith);
  rows = refl;
}

pub length-cuts : (bytes : List ℕ) → length (cuts bytes) ≡ piece_count_in (counts bytes)
length-cuts bytes = length-map (table bytes) (cut bytes) ∙ length-table bytes

pub counted_model : (bytes : List ℕ) → Counted (model bytes) (counts bytes)
counted_model bytes = rw (model_parted bytes) (counted_parted (counts bytes) (cuts bytes) (length-cuts bytes))

-- the encoding of a sheet, read
module _ (sh : Sheet) where
  pub counted_encode : Counted sh (counts (encode sh))
  unfolding encode
  counted_encode = record { roles = refl; labels = refl; states = refl; rows = refl }

  pub piece_count_encode : piece_count_in (counts (encode sh)) ≡ length (pieces sh)
  unfolding encode
  piece_count_encode = simp (length-append, length-map) (omega arith)

  pub drop-encode : drop (begin (length (pieces sh))) (encode sh) ≡ flat_map (λ p. p) (pieces sh)
  unfolding encode
  drop-encode =
      sym (drop-drop (4 * length (pieces sh)) 5 (encode sh))
      ∙ drop_at (pairs (begin (length (pieces sh))) (pieces sh)) (flat_map (λ p. p) (pieces sh)) (4 * length (pieces sh)) (length_pairs (begin (length (pieces sh))) (pieces sh))

  pub length-encode : length (encode sh) ≡ begin (length (pieces sh)) + length (flat_map (λ p. p) (pieces sh))
  unfolding encode
  length-encode = omega (arith, length-append (pairs (begin (length (pieces sh))) (pieces sh)) (flat_map (λ p. p) (pieces sh)), length_pairs (begin (length (pieces sh))) (pieces sh))

  pub table_encode : table (encode sh) ≡ laid (begin (length (pieces sh))) (pieces sh)
  unfolding table encode
  table_encode =
      let ss : List Span = laid (begin (length (pieces sh))) (pieces sh) in
      let count : piece_count_in (counts (encode sh)) ≡ length ss = piece_count_encode ∙ sym (length-laid (begin (length (pieces sh))) (pieces sh)) in
      rw (count, pairs_written (begin (length (pieces sh))) (pieces sh)) (spans_written ss (flat_map (λ p. p) (pieces sh)))

  pub cuts_encode : cuts (encode sh) ≡ pieces sh
  cuts_encode = rw table_encode (cut_laid (encode sh) (begin (length (pieces sh))) (pieces sh) drop-encode)

  -- what is read from the encoding is the sheet, valid or not
  pub model_encode : model (encode sh) ≡ sh
  model_encode = model_parted (encode sh) ∙ ap (parted (counts (encode sh))) cuts_encode ∙ parted_pieces sh (counts (encode sh)) counted_encode
