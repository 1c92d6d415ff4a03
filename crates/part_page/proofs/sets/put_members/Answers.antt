use Rattle.std.proofs.Common.{◌≡◌, ℕ, zero, suc, ◌+◌, ◌-◌, ◌<◌, ◌≤◌, List, ◌++◌, sym, ap, ◌∙◌, append_assoc, append-nil, arith}
use Rattle.std.proofs.lemmas.Bool.{cond-true, cond-false}
use Rattle.part_page.specs.Parts.{member_of, states_from}
use Rattle.text.specs.Growing.{said}
use Rattle.part_page.proofs.sets.put_members.Goals as goal
use Rattle.part_page.proofs.sets.put_members.Goals.{then-contains+in_ok-write, else-contains}

members_more : (mask : ℕ) (w y z : List ℕ) (k : ℕ) → k < 64 → z ≡ y ++ member_of mask k → y ++ states_from mask k (64 - k) ≡ w → z ++ states_from mask (k + 1) (64 - (k + 1)) ≡ w
members_more mask w y z k h after inv =
    let e : 64 - k ≡ suc (64 - (k + 1)) = omega arith in
    let rest = states_from mask (k + 1) (64 - (k + 1)) in
    ap (λ t. t ++ rest) after ∙ append_assoc y (member_of mask k) rest ∙ ap (λ n. y ++ states_from mask k n) (sym e) ∙ inv

members_all : (mask : ℕ) (w y : List ℕ) (k : ℕ) → 64 ≤ k → y ++ states_from mask k (64 - k) ≡ w → y ≡ w
members_all mask w y k h inv =
    let e : 64 - k ≡ zero = omega arith in
    sym (append-nil y) ∙ ap (λ n. y ++ states_from mask k n) (sym e) ∙ inv

pub loop-state-preserved : goal.loop-state-preserved
loop-state-preserved c =
    let k = c.loop-state.state-counter in
    let mask = c.args.set.now.states in
    let y = said c.loop-state.text in
    let told : said c.if-contains.text ≡ y ++ member_of mask k = elim c.if-contains.branch [
      | then-contains+in_ok-write w ↦ ap said w.text-is ∙ w.in_ok-write.ensures ∙ ap (λ m. y ++ m) (sym (cond-true _ _ _ (sym (w.if-contains.ensures.within c.loop-state-test.true))))
      | else-contains w ↦ ap said w.text-is ∙ sym (append-nil y) ∙ ap (λ m. y ++ m) (sym (cond-false _ _ _ (sym (w.if-contains.ensures.within c.loop-state-test.true))))
    ] in
    members_more mask _ y _ k c.loop-state-test.true told c.loop-state.invariant

pub returns : goal.returns
returns c = members_all c.args.set.now.states _ _ c.loop-state.state-counter c.loop-state-test.false c.loop-state.invariant
