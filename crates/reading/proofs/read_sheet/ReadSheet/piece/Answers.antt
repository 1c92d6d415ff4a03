use Rattle.std.proofs.Common.{◌≡◌, ℕ, ◌+◌, ◌<◌, List, get_or, Some, None, sym, ap, ◌∙◌, subst}
use Rattle.std.proofs.lemmas.Bool.{lt-ltb, cond-true}
use Rattle.sheet.specs.declared.span.Span.{Span}
use Rattle.sheet.specs.Decode.{counts, table, cut, model}
use Rattle.sheet.specs.Refuse.{fault}
use Rattle.reading.specs.declared.piece.Kind.{Kind}
use Rattle.reading.specs.Handing.{Part, counts_of, piece_count_of, first_pair, piece_of, seen, handed}
use Rattle.reading.specs.Reads.{bytes_of}
use Rattle.reading.specs.Places.{nowhere}
use Rattle.reading.proofs.Handing.{clean_bytes, counts_are, piece_is, piece_offset}
use Rattle.reading.proofs.read_sheet.ReadSheet.piece.Goals as goal

module _ (bytes : List ℕ) (clean : fault bytes ≡ None) (kind : Kind) (n : ℕ) (h : n < piece_count_of (counts_of (model bytes)) kind) where
  inside : n < piece_count_of (counts bytes) kind
  inside = subst (λ k. n < piece_count_of k kind) (sym (counts_are bytes clean)) h

  abbrev span : Span
  span = get_or (table bytes) (first_pair (counts bytes) kind + n) nowhere

  -- the pair at which the piece is looked up
  within : (part : Part) → part ≡ record { kind = kind; bytes = cut bytes span; offset = span.offset } → Some part ≡ handed (model bytes) kind n
  within part e =
      ap Some
      (e
      ∙ ap (λ p. record { kind = kind; bytes = p; offset = span.offset }) (piece_is bytes clean kind n inside)
      ∙ ap (λ o. record { kind = kind; bytes = piece_of (model bytes) kind n; offset = o }) (piece_offset bytes clean kind n inside))
      ∙ sym (cond-true _ _ None (lt-ltb n (piece_count_of (counts_of (model bytes)) kind) h))

  -- the part that was cut out of the same bytes
  told : (other : List ℕ) (first : ℕ) (piece : List ℕ) (offset : ℕ) → other ≡ bytes → first ≡ first_pair (counts bytes) kind
      → offset ≡ (get_or (table other) (first + n) nowhere).offset → piece ≡ cut other (get_or (table other) (first + n) nowhere)
      → (part : Part) → part ≡ record { kind = kind; bytes = piece; offset = offset } → part ≡ record { kind = kind; bytes = cut bytes span; offset = span.offset }
  told other first piece offset is e o p part q =
      let at : get_or (table other) (first + n) nowhere ≡ span = ap (λ b. get_or (table b) (first + n) nowhere) is ∙ ap (λ f. get_or (table bytes) (f + n) nowhere) e in
      q
      ∙ ap (λ b. record { kind = kind; bytes = b; offset = offset }) (p ∙ ap (λ b. cut b (get_or (table other) (first + n) nowhere)) is ∙ ap (cut bytes) at)
      ∙ ap (λ x. record { kind = kind; bytes = cut bytes span; offset = x }) (o ∙ ap (λ s. s.offset) at)

pub returns-clause-value : goal.returns-clause-value
returns-clause-value c =
    let bytes = bytes_of c.args.self.now in
    let clean = clean_bytes c.args.self.now in
    let kind = c.args.kind in
    let n = c.args.number in
    let inside = subst (λ m. n < m) c.count.ensures c.if-number-count.false in
    let first-is : c.first.result ≡ first_pair (counts bytes) kind = c.first.ensures ∙ ap (λ k. first_pair k kind) c.counts.ensures.read in
    let part-is = told bytes clean kind n inside c.tiled.result.paired.bytes.now c.first.result c.piece.result.bytes.now c.piece.result.offset c.tiled.ensures first-is
    c.piece.ensures.offset c.piece.ensures.value (seen c.new.result) c.new.ensures in
    within bytes clean kind n inside (seen c.new.result) part-is
