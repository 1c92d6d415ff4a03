use Rattle.std.proofs.Common.{◌≡◌, ℕ, ◌+◌, ◌≤◌, true, false, List, drop, sym, ap, ◌∙◌, inl, inr, arith}
use Rattle.std.proofs.lemmas.List.{drop-drop}
use Rattle.std.proofs.lemmas.Bool.{and_from, and_parts, le-leb, leb-true, cases_Bool}
use Rattle.book_rows.specs.Bytes.{number_of}
use Rattle.book_rows.specs.Slots.{period_of, first_of, width_of, slot_rule}
use Rattle.book_rows.proofs.slot.SlotRowKind.decode.Goals as goal
use Rattle.book_rows.proofs.slot.SlotRowKind.decode.Goals.{else-width-ge1-via-then-width-ge1+else-first-width, else-width-ge1-via-else-width-ge1}

-- the numbers that were read are those of the row
abbrev Read : List ℕ → ℕ → ℕ → ℕ → Type 0
Read row period first width = (period ≡ period_of row) × (first ≡ first_of row) × (width ≡ width_of row)

numbers : (row after last : List ℕ) (period first width : ℕ) → period ≡ number_of row → after ≡ drop 4 row → first ≡ number_of after → last ≡ drop 4 after
    → width ≡ number_of last → Read row period first width
numbers row after last period first width p a f l w =
    (p, f ∙ ap number_of a, w ∙ ap number_of (l ∙ ap (drop 4) a ∙ drop-drop 4 4 row))

module _ (row : List ℕ) (period first width : ℕ) (read : Read row period first width) where
  kept : 1 ≤ width → first + width ≤ period → true ≡ slot_rule row
  kept h k =
      sym (and_from _ _
      (le-leb 1 (width_of row) (omega (arith, read.2)))
      (le-leb (first_of row + width_of row) (period_of row) (omega (arith, read.0, read.1, read.2))))

  broken : (1 ≤ width → first + width ≤ period → ⊥) → false ≡ slot_rule row
  broken against =
      elim (cases_Bool (slot_rule row)) [
        | inl t ↦ absurd (against (omega (arith, read.2, leb-true 1 (width_of row) (and_parts _ _ t).0))
            (omega (arith, read.0, read.1, read.2, leb-true (first_of row + width_of row) (period_of row) (and_parts _ _ t).1)))
        | inr f ↦ sym f
      ]

pub returns-then-first-width : goal.returns-then-first-width
returns-then-first-width c =
    let a = c.in_ok-period.ensures in
    let b = c.in_ok-first.ensures in
    let d = c.in_ok-width.ensures in
    let read = numbers c.args.bytes.now c.in_ok-period.rest.now c.in_ok-first.rest.now _ _ _ a.1 a.2 b.1 b.2 d.1 in
    ((λ _. kept c.args.bytes.now _ _ _ read (omega (arith, c.if-width-ge1.true)) (omega (arith, c.if-first-width.true))), read)

pub returns-else-width-ge1 : goal.returns-else-width-ge1
returns-else-width-ge1 c =
    let a = c.in_ok-period.ensures in
    let b = c.in_ok-first.ensures in
    let d = c.in_ok-width.ensures in
    let read = numbers c.args.bytes.now c.in_ok-period.rest.now c.in_ok-first.rest.now _ _ _ a.1 a.2 b.1 b.2 d.1 in (
      (λ _. broken c.args.bytes.now _ _ _ read
          (λ h k. elim c.else-width-ge1.branch [
            | else-width-ge1-via-then-width-ge1+else-first-width w ↦ omega (arith, k, w.if-first-width.false)
            | else-width-ge1-via-else-width-ge1 w ↦ omega (arith, h, w.if-width-ge1.false)
          ])),
      tt,
    )
