-- Bytes without a fault are the encoding of the valid sheet that is read from them.
use Rattle.std.proofs.Common.{◌≡◌, ℕ, ◌*◌, ◌≤◌, List, [], ◌∷◌, ◌++◌, length, take, drop, None, sym, refl, ap, ◌∙◌, ap₂, arith}
use Rattle.std.specs.List.{flat_map, AllByRecursion}
use Rattle.std.proofs.lemmas.List.{take-append-drop, take-take, drop-take, drop-drop, length-drop}
use Rattle.std.proofs.ByRecursion.{All-weaker, All-take, All-drop, All-map}
use Rattle.sheet.specs.Model.{Name}
use Rattle.sheet.specs.Valid.{Between, GoodName, GoodState, Valid}
use Rattle.sheet.specs.Encode.{body, pieces, pairs, header, begin, encode}
use Rattle.sheet.specs.Decode.{byte, counts, name_count_of, piece_count_in, table, state_of, model}
use Rattle.sheet.specs.Refuse.{fault}
use Rattle.sheet.specs.Law.{Bytes, Encodes}
use Rattle.sheet.proofs.Checks.{BodySize}
use Rattle.sheet.proofs.Bodies.{body_state_of}
use Rattle.sheet.proofs.Spans.{written, pairs_written, written_spans, laid_from_tiled, joined_from_tiled}
use Rattle.sheet.proofs.NameRules.{Printable, distinct_from_new}
use Rattle.sheet.proofs.StateRules.{Rules, good_from_rules}
use Rattle.sheet.proofs.Pieces.{cuts, length-cuts, model_parted, counted_model}
use Rattle.sheet.proofs.Whole.{Whole, clear_fault, name_lengths, state_lengths, pieces_model}

all_both : {X : Type 0} (P Q : X → Type 0) (xs : List X) → AllByRecursion P xs → AllByRecursion Q xs → AllByRecursion (λ x. P x × Q x) xs
all_both P Q [] p q = tt
all_both P Q (x ∷ xs) p q = ((p.0, q.0), all_both P Q xs p.1 q.1)

first_five : (bytes : List ℕ) → 5 ≤ length bytes → byte bytes 0 ∷ byte bytes 1 ∷ byte bytes 2 ∷ byte bytes 3 ∷ byte bytes 4 ∷ [] ≡ take 5 bytes
first_five [] h = absurd (omega arith)
first_five (a ∷ []) h = absurd (omega arith)
first_five (a ∷ b ∷ []) h = absurd (omega arith)
first_five (a ∷ b ∷ c ∷ []) h = absurd (omega arith)
first_five (a ∷ b ∷ c ∷ d ∷ []) h = absurd (omega arith)
first_five (a ∷ b ∷ c ∷ d ∷ e ∷ rest) h = refl

module _ (bytes : List ℕ) (whole : Whole bytes) where
  header_bytes : header (model bytes) ≡ take 5 bytes
  header_bytes =
      let k = counted_model bytes in
      rw (k.roles, k.labels, k.states, k.rows)
      (ap (λ (e : ℕ). e ∷ byte bytes 1 ∷ byte bytes 2 ∷ byte bytes 3 ∷ byte bytes 4 ∷ []) (sym whole.edition) ∙ first_five bytes whole.long)

  pair_bytes : Bytes bytes → pairs (begin (piece_count_in (counts bytes))) (cuts bytes) ≡ take (4 * piece_count_in (counts bytes)) (drop 5 bytes)
  unfolding table
  pair_bytes ok =
      let n : ℕ = piece_count_in (counts bytes) in
      pairs_written (begin n) (cuts bytes) ∙ ap written (laid_from_tiled bytes (begin n) (table bytes) whole.tiled)
      ∙ written_spans n (drop 5 bytes) (All-drop _ 5 bytes ok) (rw length-drop (omega (arith, whole.room)))

  piece_bytes : flat_map (λ p. p) (cuts bytes) ≡ drop (4 * piece_count_in (counts bytes)) (drop 5 bytes)
  piece_bytes =
      let n : ℕ = piece_count_in (counts bytes) in
      joined_from_tiled bytes (begin n) (table bytes) whole.tiled ∙ sym (drop-drop (4 * n) 5 bytes)

  pub encode_model : Bytes bytes → encode (model bytes) ≡ bytes
  unfolding encode
  encode_model ok =
      let ps : List (List ℕ) = pieces (model bytes) in
      let rest : pairs (begin (length ps)) ps ++ flat_map (λ p. p) ps ≡ drop 5 bytes = rw (pieces_model bytes whole, length-cuts bytes, pair_bytes ok, piece_bytes) (take-append-drop (4 * piece_count_in (counts bytes)) (drop 5 bytes)) in
      ap₂ (λ (xs ys : List ℕ). xs ++ ys) header_bytes rest ∙ take-append-drop 5 bytes

  good_names : (names : List Name) → AllByRecursion (λ p. Between 1 12 (length p)) names → AllByRecursion Printable names → AllByRecursion GoodName names
  good_names names z p = all_both (λ q. Between 1 12 (length q)) Printable names z p

  role_sizes : AllByRecursion (λ p. Between 1 12 (length p)) (model bytes).roles
  role_sizes =
      rw (model_parted bytes, ← take-take (counts bytes).roles (name_count_of (counts bytes)) (cuts bytes) (omega arith))
      (All-take _ (counts bytes).roles (take (name_count_of (counts bytes)) (cuts bytes)) (name_lengths bytes whole))

  label_sizes : AllByRecursion (λ p. Between 1 12 (length p)) (model bytes).labels
  label_sizes =
      rw (model_parted bytes, ← drop-take (counts bytes).roles (counts bytes).labels (cuts bytes))
      (All-drop _ (counts bytes).roles (take (name_count_of (counts bytes)) (cuts bytes)) (name_lengths bytes whole))

  state_sizes : AllByRecursion (λ st. BodySize (length (body st))) (model bytes).states
  state_sizes =
      rw (model_parted bytes)
      (All-map (λ st. BodySize (length (body st))) state_of (drop (name_count_of (counts bytes)) (cuts bytes))
      (All-weaker (λ p. BodySize (length p)) (λ p. BodySize (length (body (state_of p)))) (λ p h. rw (body_state_of p h) h) (drop (name_count_of (counts bytes)) (cuts bytes)) (state_lengths bytes whole)))

  pub valid_model : Valid (model bytes)
  valid_model = record {
    role_count = rw (counted_model bytes).roles whole.good_counts.0;
    label_count = rw (counted_model bytes).labels whole.good_counts.1.0;
    state_count = rw (counted_model bytes).states whole.good_counts.1.1.0;
    row_count = rw (counted_model bytes).rows whole.good_counts.1.1.1;
    role_names = good_names (model bytes).roles role_sizes whole.roles.0;
    label_names = good_names (model bytes).labels label_sizes whole.labels.0;
    roles_distinct = distinct_from_new (model bytes).roles whole.roles.1;
    labels_distinct = distinct_from_new (model bytes).labels whole.labels.1;
    good_states = All-weaker (λ st. BodySize (length (body st)) × Rules (model bytes) st) (GoodState (model bytes)) (λ st h. good_from_rules (model bytes) st h.0 h.1) (model bytes).states (all_both _ (Rules (model bytes)) (model bytes).states state_sizes whole.states);
  }

pub sound : (bytes : List ℕ) → Bytes bytes → fault bytes ≡ None → Encodes bytes (model bytes)
sound bytes ok clean =
    let whole : Whole bytes = (clear_fault bytes).0 clean in
    record { valid = valid_model bytes whole; bytes_are = encode_model bytes whole ok }
