-- The encoding of a valid sheet has no fault.
use Rattle.std.proofs.Common.{◌≡◌, ℕ, ◌+◌, List, ◌++◌, map, length, take, drop, None, sym, refl, ap, ◌∙◌, arith}
use Rattle.std.specs.List.{AllByRecursion}
use Rattle.std.proofs.lemmas.List.{append_assoc, length-append, take_at, drop_at, take-map, drop-map}
use Rattle.std.proofs.ByRecursion.{All-weaker, All-append, All-map}
use Rattle.sheet.specs.Model.{Name, Sheet}
use Rattle.sheet.specs.Valid.{Between, GoodName, GoodState, Distinct, Valid}
use Rattle.sheet.specs.Encode.{body, pieces, begin, encode}
use Rattle.sheet.specs.Decode.{counts, piece_count_in, table}
use Rattle.sheet.specs.Refuse.{fault}
use Rattle.sheet.specs.Law.{Encodes}
use Rattle.sheet.proofs.Checks.{BodySize}
use Rattle.sheet.proofs.Spans.{Tiled, tiled_from_laid, sizes_laid}
use Rattle.sheet.proofs.Sizes.{Sized, sized_from_sizes}
use Rattle.sheet.proofs.NameRules.{Printable, new_from_distinct}
use Rattle.sheet.proofs.StateRules.{Rules, rules_from_good, size_from_good}
use Rattle.sheet.proofs.Pieces.{piece_count_encode, length-encode, table_encode, model_encode}
use Rattle.sheet.proofs.Whole.{GoodNames, Whole, clear_fault}

good_names : (names : List Name) → AllByRecursion GoodName names → Distinct names → GoodNames names
good_names names g d = (All-weaker GoodName Printable (λ p h. h.1) names g, new_from_distinct names d)

module _ (sh : Sheet) (v : Valid sh) where
  sized : Sized (length sh.roles + length sh.labels) 0 (map length (pieces sh))
  sized =
      let n : ℕ = length sh.roles + length sh.labels in
      let names : List Name = sh.roles ++ sh.labels in
      let bodies : List (List ℕ) = map body sh.states in
      let count : length names ≡ n = length-append sh.roles sh.labels in
      let split : pieces sh ≡ names ++ bodies = sym (append_assoc sh.roles sh.labels bodies) in
      let front : take n (map length (pieces sh)) ≡ map length names = take-map length n (pieces sh) ∙ ap (map length) (ap (take n) split ∙ take_at names bodies n count) in
      let back : drop n (map length (pieces sh)) ≡ map length bodies = drop-map length n (pieces sh) ∙ ap (map length) (ap (drop n) split ∙ drop_at names bodies n count) in
      sized_from_sizes n 0 n (map length (pieces sh)) (omega arith)
      (rw front (All-map (Between 1 12) length names (All-weaker GoodName _ (λ p h. h.0) names (All-append GoodName sh.roles sh.labels v.role_names v.label_names))))
      (rw back (All-map BodySize length bodies (All-map (λ p. BodySize (length p)) body sh.states (All-weaker (GoodState sh) _ (size_from_good sh) sh.states v.good_states))))

  tiled : Tiled (length (encode sh)) (begin (piece_count_in (counts (encode sh)))) (table (encode sh))
  tiled =
      rw (piece_count_encode sh, table_encode sh)
      (tiled_from_laid (length (encode sh)) (begin (length (pieces sh))) (pieces sh) (sym (length-encode sh)))

  pub whole_encode : Whole (encode sh)
  unfolding encode
  whole_encode = record {
    long = omega arith;
    edition = refl;
    good_counts = (v.role_count, (v.label_count, (v.state_count, v.row_count)));
    room = omega (arith, piece_count_encode sh, length-encode sh);
    tiled = tiled;
    sized = rw (table_encode sh, sizes_laid (begin (length (pieces sh))) (pieces sh)) sized;
    roles = rw (model_encode sh) (good_names sh.roles v.role_names v.roles_distinct);
    labels = rw (model_encode sh) (good_names sh.labels v.label_names v.labels_distinct);
    states = rw (model_encode sh) (All-weaker (GoodState sh) (Rules sh) (rules_from_good sh) sh.states v.good_states);
  }

pub complete : (bytes : List ℕ) (sh : Sheet) → Encodes bytes sh → fault bytes ≡ None
complete bytes sh e = rw e.bytes_are at ((clear_fault (encode sh)).1 (whole_encode sh e.valid))
