use Rattle.std.proofs.Common.{◌≡◌, ℕ, ◌+◌, ◌-◌, ◌<◌, true, false, List, [], length, get_or, None, sym, ap, ◌∙◌, subst, refl, arith, rules, tests}
use Rattle.std.specs.List.{range_with_len}
use Rattle.std.proofs.lemmas.Iterator.{YieldsList-from_range, IsFirst-from_position}
use Rattle.sheet.specs.Decode.{counts, table, cut, model}
use Rattle.sheet.specs.Names.{same}
use Rattle.sheet.specs.Refuse.{fault}
use Rattle.reading.specs.declared.piece.Kind.TheVariants.{Label}
use Rattle.reading.specs.Handing.{piece_count_of}
use Rattle.reading.specs.Places.{nowhere}
use Rattle.reading.specs.Reads.{bytes_of, sheet_of}
use Rattle.reading.proofs.Handing.{clean_bytes, counts_are, piece_is}
use Rattle.reading.proofs.Labels.{labels_distinct, finds_first, exactly}
use Rattle.reading.proofs.read_sheet.ReadSheet.find_label.Goals as goal

module _ (whole : List ℕ) (clean : fault whole ≡ None) (label : ℕ) (h : label < length (model whole).labels) (first : ℕ) (e : first ≡ (counts whole).roles) where
  inside : label < (counts whole).labels
  inside = subst (λ k. label < piece_count_of k Label) (sym (counts_are whole clean)) h

  -- what was compared is the label's name
  compared : (bytes name : List ℕ) → bytes ≡ whole → same (get_or (model whole).labels label []) name ≡ same (cut bytes (get_or (table bytes) (first + label) nowhere)) name
  compared bytes name is =
      sym
      (ap (λ b. same (cut b (get_or (table b) (first + label) nowhere)) name) is
      ∙ ap (λ f. same (cut whole (get_or (table whole) (f + label) nowhere)) name) e
      ∙ ap (λ p. same p name) (piece_is whole clean Label label inside))

pub returns : goal.returns
returns c =
    let whole = bytes_of c.args.self.now in
    let clean = clean_bytes c.args.self.now in
    let bytes = c.tiled-tiled.result.paired.bytes.now in
    let name = c.args.name.now in
    let first = c.first-first.result in
    let e = c.first-first.ensures ∙ ap (λ k. k.roles) c.counts.ensures.read in
    let test = λ (pair : ℕ). same (cut bytes (get_or (table bytes) pair nowhere)) name in
    let size : first + c.count.result - first ≡ c.count.result = omega arith in
    let ran =
    IsFirst-from_position _ _ c.position.result (λ pair. test pair ≡ true) (λ pair. test pair ≡ false) c.position.ensures.ran
    (YieldsList-from_range first (first + c.count.result) c.count.result refl size) (λ x q k. search (rules, tests)) (λ x q k. search (rules, tests)) in
    let f =
    finds_first (sheet_of c.args.self.now) (labels_distinct whole clean) name first test (λ i h. compared whole clean i h first e bytes name c.tiled-tiled.ensures)
    c.position.result (range_with_len first c.count.result) (ap (range_with_len first) c.count.ensures) ran in
    record { found = f; exact = exactly (sheet_of c.args.self.now) name c.position.result f }
