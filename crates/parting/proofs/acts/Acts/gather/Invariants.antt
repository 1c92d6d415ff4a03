use Rattle.std.proofs.Common.{◌≡◌, ℕ, Bool, drop}
use Rattle.parting.specs.declared.act.Act.{Act}
use Rattle.parting.specs.Calls.{ComputesAt}
use Rattle.parting.specs.Masks.{gather}
use Rattle.parting.proofs.acts.Acts.gather.Given as goal

abbrev pub invariant-loop-act : goal.invariant-loop-act
invariant-loop-act g l =
    (t : Act → Bool) (n : Act → ℕ) → ComputesAt (goal.T-post g l.test) t → ComputesAt (goal.N-post g l.number) n → gather t n l.mask (drop l.act-index l.act-items) ≡ gather t n 0 l.act-items
