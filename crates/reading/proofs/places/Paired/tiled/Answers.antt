use Rattle.std.proofs.Common.{◌≡◌, ℕ, ◌+◌, ◌<◌, ◌≤◌, true, false, ltb, List, length, get_or, drop, Some, None, is_some, sym, ap, ◌∙◌, arith}
use Rattle.std.proofs.lemmas.List.{at_drop_more, at_drop_all}
use Rattle.std.proofs.lemmas.Bool.{and_parts, leb-true, eq-eqb, ne_eqb, cond-true, cond-false}
use Rattle.sheet.specs.declared.fault.ReadFault.TheVariants.{Pair}
use Rattle.sheet.specs.declared.span.Span.{Span}
use Rattle.sheet.specs.Decode.{piece_count_in, table}
use Rattle.sheet.specs.Refuse.{placed, pair_fault, sized}
use Rattle.reading.specs.Places.{nowhere}
use Rattle.reading.proofs.Checks.{first_fails, first_passes}
use Rattle.sheet.proofs.Spans.{length-table}
use Rattle.reading.proofs.places.Paired.tiled.Goals as goal

module _ (limit names i at : ℕ) (ss : List Span) (s : Span) (is : s ≡ get_or ss i nowhere) (h : i < length ss) where
  here : placed limit (ltb i names) at s ≡ false → pair_fault limit names i at (drop i ss) ≡ Some (Pair i)
  here e =
      at_drop_more (pair_fault limit names i at) ss i nowhere h
      ∙ first_fails (placed limit (ltb i names) at (get_or ss i nowhere)) (Pair i) _ (rw (← is) e)

  more : placed limit (ltb i names) at s ≡ true → pair_fault limit names i at (drop i ss) ≡ pair_fault limit names (i + 1) (at + s.size) (drop (i + 1) ss)
  more e =
      at_drop_more (pair_fault limit names i at) ss i nowhere h
      ∙ first_passes (placed limit (ltb i names) at (get_or ss i nowhere)) (Pair i) _ (rw (← is) e)
      ∙ ap (λ x. pair_fault limit names (i + 1) (at + x.size) (drop (i + 1) ss)) (sym is)

ends_by : (limit at : ℕ) (s : Span) (i names : ℕ) → placed limit (ltb i names) at s ≡ true → at + s.size ≤ limit
unfolding placed
ends_by limit at s i names e =
    leb-true _ _ (and_parts (sized (ltb i names) s.size) _ (and_parts _ _ e).1).1

pub returns-then-not-placed-clause-judged : goal.returns-then-not-placed-clause-judged
returns-then-not-placed-clause-judged c =
    let bytes = c.args.self.bytes.now in
    let within : c.loop-pair.pair < length (table bytes) = omega (arith, length-table bytes, c.piece_count-count.ensures, ap piece_count_in c.args.self.counted) in
    sym (here _ _ _ c.loop-pair.at (table bytes) _ c.span-span.ensures.value within (sym c.if-not-placed.ensures)) ∙ c.loop-pair.invariant.0

pub loop-pair-preserved : goal.loop-pair-preserved
loop-pair-preserved c =
    let bytes = c.args.self.bytes.now in
    let within : c.loop-pair.pair < length (table bytes) = omega (arith, length-table bytes, c.piece_count-count.ensures, ap piece_count_in c.args.self.counted) in
    let passed = sym c.if-not-placed.ensures in (
      sym (more _ _ _ c.loop-pair.at (table bytes) _ c.span-span.ensures.value within passed) ∙ c.loop-pair.invariant.0,
      ends_by _ c.loop-pair.at c.span-span.result _ _ passed,
    )

pub returns-then-at-limit-clause-judged : goal.returns-then-at-limit-clause-judged
returns-then-at-limit-clause-judged c =
    let bytes = c.args.self.bytes.now in
    let all : length (table bytes) ≤ c.loop-pair.pair = omega (arith, length-table bytes, c.piece_count-count.ensures, ap piece_count_in c.args.self.counted) in
    let last : c.loop-pair.pair ≡ c.piece_count-count.result = omega arith in
    ap (λ k. Some (Pair k)) (sym last)
    ∙ sym (cond-false _ _ _ (ne_eqb _ _ c.if-at-limit.true))
    ∙ sym (at_drop_all (pair_fault _ _ _ c.loop-pair.at) (table bytes) c.loop-pair.pair all)
    ∙ c.loop-pair.invariant.0

clean : (bytes : List ℕ) (names at i : ℕ) → length (table bytes) ≤ i → at ≡ length bytes → pair_fault (length bytes) names i at (drop i (table bytes)) ≡ None
clean bytes names at i all e = at_drop_all (pair_fault (length bytes) names i at) (table bytes) i all ∙ cond-true _ _ (Some (Pair i)) (eq-eqb _ _ e)

pub invariant_of-result : goal.invariant_of-result
invariant_of-result c =
    let bytes = c.args.self.bytes.now in
    let all : length (table bytes) ≤ c.loop-pair.pair = omega (arith, length-table bytes, c.piece_count-count.ensures, ap piece_count_in c.args.self.counted) in
    record { tiled = ap is_some (sym c.loop-pair.invariant.0 ∙ clean bytes _ c.loop-pair.at c.loop-pair.pair all c.if-at-limit.false) }
