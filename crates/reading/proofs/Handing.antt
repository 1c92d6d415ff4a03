-- The pieces of a sheet that has been read.
use Rattle.std.proofs.Common.{◌≡◌, ℕ, ◌+◌, ◌<◌, false, List, [], ◌++◌, map, length, get_or, take, is_some, Some, None, Option, sym, refl, ap, ◌∙◌, subst, arith}
use Rattle.std.specs.List.{flat_map}
use Rattle.std.proofs.lemmas.List.{get_or_append_left, get_or-append-add, get_or-map}
use Rattle.sheet.specs.declared.counts.Counts.{Counts}
use Rattle.sheet.specs.declared.fault.ReadFault.{ReadFault}
use Rattle.sheet.specs.Decode.{counts, piece_count_in, name_count_of, table, cut, model}
use Rattle.sheet.specs.Encode.{body, pieces, begin}
use Rattle.sheet.specs.Model.{Sheet, ended}
use Rattle.sheet.specs.Refuse.{fault}
use Rattle.sheet.proofs.Clean.{pairs_there, piece_begins, pieces_read}
use Rattle.sheet.proofs.Pieces.{counted_model, length-cuts}
use Rattle.sheet.proofs.Sizes.{clear_pairs}
use Rattle.sheet.proofs.Spans.{length-table}
use Rattle.sheet.proofs.Whole.{clear_fault}
use Rattle.reading.specs.declared.piece.Kind.{Kind}
use Rattle.reading.specs.declared.piece.Kind.TheVariants.{Role, Label, State}
use Rattle.reading.specs.declared.read_sheet.ReadSheet.{ReadSheet}
use Rattle.reading.specs.Handing.{counts_of, piece_count_of, first_pair, piece_of, offset_of}
use Rattle.reading.specs.Places.{Tiled, nowhere}
use Rattle.reading.specs.Reads.{bytes_of}

pub none_from_test : (o : Option ReadFault) → is_some o ≡ false → o ≡ None
none_from_test None e = refl
none_from_test (Some f) e = absurd cc

-- reading finds no fault in a sheet's bytes
pub clean_bytes : (s : ReadSheet) → fault (bytes_of s) ≡ None
clean_bytes s = none_from_test (fault (bytes_of s)) s.sound

-- the piece of a kind among all pieces
pub piece_among : (sh : Sheet) (kind : Kind) (n : ℕ) → n < piece_count_of (counts_of sh) kind → get_or (pieces sh) (first_pair (counts_of sh) kind + n) [] ≡ piece_of sh kind n
piece_among sh Role n h =
    let e : 0 + n ≡ n = omega arith in
    rw e (get_or_append_left sh.roles (sh.labels ++ map body sh.states) [] n h)
piece_among sh Label n h =
    get_or-append-add sh.roles (sh.labels ++ map body sh.states) n []
    ∙ get_or_append_left sh.labels (map body sh.states) [] n h
piece_among sh State n h =
    let e : length sh.roles + length sh.labels + n ≡ length sh.roles + (length sh.labels + n) = omega arith in
    rw e
    (get_or-append-add sh.roles (sh.labels ++ map body sh.states) (length sh.labels + n) []
    ∙ get_or-append-add sh.labels (map body sh.states) n []
    ∙ get_or-map body sh.states n ended [] h)

counted_is : (sh : Sheet) (c : Counts) → length sh.roles ≡ c.roles → length sh.labels ≡ c.labels → length sh.states ≡ c.states → sh.rows ≡ c.rows → c ≡ counts_of sh
counted_is sh c roles labels states rows = rw (roles, labels, states, rows)

module _ (bytes : List ℕ) (clean : fault bytes ≡ None) where
  pub tiled_from_clean : Tiled bytes
  tiled_from_clean = record { paired = pairs_there bytes clean; tiled = (clear_pairs (length bytes) (name_count_of (counts bytes)) 0 (begin (piece_count_in (counts bytes))) (table bytes)).1 (((clear_fault bytes).0 clean).tiled, ((clear_fault bytes).0 clean).sized) }

  pub counts_are : counts bytes ≡ counts_of (model bytes)
  counts_are =
      let k = counted_model bytes in
      counted_is (model bytes) (counts bytes) k.roles k.labels k.states k.rows

  pub pair_below : (kind : Kind) (n : ℕ) → n < piece_count_of (counts bytes) kind → first_pair (counts bytes) kind + n < piece_count_in (counts bytes)
  pair_below Role n h = omega arith
  pair_below Label n h = omega arith
  pair_below State n h = omega arith

  module _ (kind : Kind) (n : ℕ) (h : n < piece_count_of (counts bytes) kind) where
    within : first_pair (counts bytes) kind + n < length (table bytes)
    within = omega (arith, length-table bytes, pair_below kind n h)

    -- the bytes at the piece's span are the piece
    pub piece_is : cut bytes (get_or (table bytes) (first_pair (counts bytes) kind + n) nowhere) ≡ piece_of (model bytes) kind n
    piece_is =
        sym (get_or-map (cut bytes) (table bytes) (first_pair (counts bytes) kind + n) nowhere [] within)
        ∙ ap (λ ps. get_or ps (first_pair (counts bytes) kind + n) []) (sym (pieces_read bytes clean))
        ∙ ap (λ c. get_or (pieces (model bytes)) (first_pair c kind + n) []) counts_are
        ∙ piece_among (model bytes) kind n (subst (λ c. n < piece_count_of c kind) counts_are h)

    pub piece_offset : (get_or (table bytes) (first_pair (counts bytes) kind + n) nowhere).offset ≡ offset_of (model bytes) (first_pair (counts_of (model bytes)) kind + n)
    piece_offset =
        let count : piece_count_in (counts bytes) ≡ length (pieces (model bytes)) = sym (ap length (pieces_read bytes clean) ∙ length-cuts bytes) in
        piece_begins bytes clean (first_pair (counts bytes) kind + n) (pair_below kind n h) nowhere
        ∙ ap (λ k. begin k + length (flat_map (λ p. p) (take (first_pair (counts bytes) kind + n) (map (cut bytes) (table bytes))))) count
        ∙ ap (λ ps. begin (length (pieces (model bytes))) + length (flat_map (λ p. p) (take (first_pair (counts bytes) kind + n) ps))) (sym (pieces_read bytes clean))
        ∙ ap (λ c. offset_of (model bytes) (first_pair c kind + n)) counts_are
