use Rattle.std.proofs.Common.{◌<◌, Some, length, refl, sym, ap, ◌∙◌, arith, length-drop}
use Rattle.std.specs.List.{list_any}
use Rattle.std.proofs.lemmas.List.{length_push}
use Rattle.std.proofs.lemmas.Bool.{eqb-true}
use lib.Dec.{eqb}
use Rattle.queue.specs.Held.{inside}
use Rattle.parting.proofs.Entering.{position_known, position_new, under_full, outcome_ok, entered_known, entered_full, entered_new, pushed, held_count, queued_more}
use Rattle.parting.proofs.search.Search.enter.Goals as goal

pub returns-then-contains : goal.returns-then-contains
returns-then-contains c =
    let found = c.args.self.now.found.items in
    let set = c.args.set in
    let known = ap (list_any (λ x. eqb x set)) (sym c.as_slice.ensures.value) ∙ sym c.contains.ensures.value ∙ c.if-contains.true in
    record { value = sym (entered_known found set (position_known set found known)); judged = refl }

pub returns-then-is_full : goal.returns-then-is_full
returns-then-is_full c =
    let found = c.args.self.now.found.items in
    let set = c.args.set in
    let absent = ap (list_any (λ x. eqb x set)) (sym c.as_slice.ensures.value) ∙ sym c.contains.ensures.value ∙ c.if-contains.false in
    record { value = sym (entered_full found set (position_new set found absent) (omega (arith, eqb-true (length found) 32 (sym c.if-is_full.ensures.value)))); judged = refl }

pub returns : goal.returns
returns c =
    let s = c.args.self.now in
    let found = s.found.items in
    let set = c.args.set in
    let absent = ap (list_any (λ x. eqb x set)) (sym c.as_slice.ensures.value) ∙ sym c.contains.ensures.value ∙ c.if-contains.false in
    let under : length found < 32 = under_full (length found) s.few (sym c.if-is_full.ensures.value) in
    let p = pushed c.push-2.result s.waiting c.push-2.new.self set (omega (arith, held_count s.waiting, s.slots, ap length s.waits, length-drop s.judged found, under)) c.push-2.ensures.held in
    record {
      value = outcome_ok c.map_err.result c.push.new.self.items (c.map_err.ensures.variant ∙ p.0) ∙ ap Some c.push.ensures.items ∙ sym (entered_new found set (position_new set found absent) under);
      judged = refl;
    }

pub invariant_of-self : goal.invariant_of-self
invariant_of-self c =
    let s = c.args.self.now in
    let found = s.found.items in
    let set = c.args.set in
    let under : length found < 32 = under_full (length found) s.few (sym c.if-is_full.ensures.value) in
    let p = pushed c.push-2.result s.waiting c.push-2.new.self set (omega (arith, held_count s.waiting, s.slots, ap length s.waits, length-drop s.judged found, under)) c.push-2.ensures.held in
    record {
      few = omega (arith, ap length c.push.ensures.items, length_push found set, under);
      reached = omega (arith, ap length c.push.ensures.items, length_push found set, s.reached);
      slots = c.push-2.ensures.room ∙ s.slots;
      waits = queued_more s.judged set found c.push.new.self.items (inside s.waiting) (inside c.push-2.new.self) s.reached s.waits c.push.ensures.items p.1;
    }
