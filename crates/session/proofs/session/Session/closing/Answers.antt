-- The first role that is not finished is the lowest.
use Rattle.std.proofs.Common.{◌≡◌, ℕ, ◌<◌, ◌≤◌, true, false, Some, None, Ok, Err, Option, Result, MatchOption, ap, rules, arith, tests}
use Rattle.std.proofs.lemmas.Iterator.{first_from_Range}
use Rattle.events.specs.declared.closing.Early.{Early}
use Rattle.parting.specs.declared.accepted.Accepted.{Accepted}
use Rattle.session.specs.declared.inner.Inner.{Inner}
use Rattle.session.specs.Finishing.{Lowest, is_finished}
use Rattle.session.proofs.session.Session.closing.Goals as goal

lowest : (accepted : Accepted) (inner : Inner) (roles : ℕ) (first : Option ℕ) (r : Result (Unit {0}) Early) → roles ≡ accepted.counts.roles
    → MatchOption first ((k : ℕ) → 0 ≤ k → k < roles → is_finished accepted inner k ≡ true)
    (λ i. (0 ≤ i) × (i < roles) × (is_finished accepted inner i ≡ false) × ((k : ℕ) → 0 ≤ k → k < i → is_finished accepted inner k ≡ true))
    → MatchOption first (r ≡ Ok tt) (λ i. r ≡ Err (record { role = i })) → Lowest accepted inner r
lowest accepted inner roles None r same all is = rw is (λ m h. all m (omega arith) (omega arith))
lowest accepted inner roles (Some i) r same found is = rw is (omega (arith, found.1), found.2, λ m h. found.3 m (omega arith) h)

pub returns : goal.returns
returns g c =
    let accepted = c.args.self.now.accepted in
    let inner = c.args.self.now.inner in
    lowest accepted inner c.counts.result.roles c.find-early.result c.map_or.result (ap (λ n. n.roles) c.counts.ensures)
    (first_from_Range _ _ _ c.find-early.result (λ x. is_finished accepted inner x ≡ false) (λ x. is_finished accepted inner x ≡ true) c.find-early.ensures.ran
    (λ x q k. search (rules, tests)) (λ x q k. search (rules, tests)))
    (search rules)
