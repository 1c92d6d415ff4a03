-- Whether a set's kind is finished, read off the tables, is whether the role is finished after the events.
use Rattle.std.proofs.Common.{◌≡◌, ℕ, ◌<◌, true, false, cond, ◌&&◌, ltb, List, length, Some, None, Ok, Err, Result, sym, ap, ◌∙◌, arith}
use Rattle.std.proofs.lemmas.Bool.Decides.{nat_tests}
use Rattle.sheet.specs.Model.{Sheet}
use Rattle.parting.specs.declared.accepted.Accepted.{Accepted}
use Rattle.parting.specs.declared.local.LocalKind.{LocalKind}
use Rattle.parting.specs.declared.local.LocalKind.TheVariants.{Finished as Done, Sending, Receiving}
use Rattle.parting.specs.Blank.{no_part}
use Rattle.parting.specs.Local.{KindIs}
use Rattle.events.specs.declared.event.Event.{Event}
use Rattle.runs.specs.Run.{Book}
use Rattle.runs.specs.Monitor.{InSet}
use Rattle.runs.specs.Stands.{SetAfter}
use Rattle.runs.specs.Closing.{Finished}
use Rattle.runs.proofs.Ending.{closing}
use Rattle.events.specs.declared.closing.Early.{Early}
use Rattle.session.specs.declared.inner.Inner.{Inner}
use Rattle.session.specs.Finishing.{finished_kind, finished_set, is_finished, Lowest}
use Rattle.session.specs.Kept.{no_set, record_of, set_at, monitor_of}
use Rattle.session.specs.Outcomes.{Closes}
use Rattle.session.specs.Prepared.{set_in_part}
use Rattle.session.specs.Watches.{Watches}

kind_done : (sh : Sheet) (m : ℕ) (X : ℕ → Type 0) (k : LocalKind) → KindIs sh m X k → finished_kind k ≡ true → Finished sh m X
kind_done sh m X Done is e = is
kind_done sh m X (Sending to) is e = let z : ◌≡◌ {A = ℕ} 0 1 = cc in absurd (omega arith)
kind_done sh m X (Receiving from) is e = let z : ◌≡◌ {A = ℕ} 0 1 = cc in absurd (omega arith)

kind_acts : (sh : Sheet) (m : ℕ) (X : ℕ → Type 0) (k : LocalKind) → KindIs sh m X k → finished_kind k ≡ false → Finished sh m X → ⊥
kind_acts sh m X Done is e done = let z : ◌≡◌ {A = ℕ} 0 1 = cc in omega arith
kind_acts sh m X (Sending to) is e done = done is.state is.inside is.action is.acts
kind_acts sh m X (Receiving from) is e done = done is.state is.inside is.action is.acts

-- a set that a part has is found
set_found : (accepted : Accepted) (m i : ℕ) → m < accepted.counts.roles → i < 32 → set_in_part accepted m i ≡ Some (set_at accepted m i)
set_found accepted m i l h =
    let both : (ltb m accepted.counts.roles && ltb i 32) ≡ true = grind (arith, nat_tests) in
    ap (λ b. cond b (Some (set_at accepted m i)) None) both

module _ (sh : Sheet) (book : Book) (opening depth : ℕ) (es : List Event) (accepted : Accepted) (inner : Inner) (w : Watches sh book opening depth es accepted inner) where
  roles : accepted.counts.roles ≡ length sh.roles
  roles = ap (λ k. k.roles) w.sheet.parts.counts

  by_kind : (m : ℕ) → m < length sh.roles → is_finished accepted inner m ≡ finished_kind (set_at accepted m (record_of inner m).set).kind
  by_kind m l =
      let n = w.numbers m l in
      let few = (w.sheet.parts.local m l no_part).few in
      ap finished_set (set_found accepted m (record_of inner m).set (omega (arith, roles, l)) (omega (arith, n, few)))

  kind_is : (m : ℕ) → m < length sh.roles → KindIs sh m (InSet (monitor_of accepted inner) m) (set_at accepted m (record_of inner m).set).kind
  kind_is m l = (w.sheet.parts.local m l no_part).kind (record_of inner m).set (w.numbers m l) no_set

  -- the set that the record numbers is the one after the events
  done_after : (m : ℕ) → m < length sh.roles → Finished sh m (InSet (monitor_of accepted inner) m) → Finished sh m (SetAfter sh m es)
  done_after m l done s x = done s ((w.stands.set m s l).1 x)

  done_before : (m : ℕ) → m < length sh.roles → Finished sh m (SetAfter sh m es) → Finished sh m (InSet (monitor_of accepted inner) m)
  done_before m l done s x = done s ((w.stands.set m s l).0 x)

  done_in : (m : ℕ) → m < length sh.roles → is_finished accepted inner m ≡ true → Finished sh m (InSet (monitor_of accepted inner) m)
  done_in m l e = kind_done sh m (InSet (monitor_of accepted inner) m) (set_at accepted m (record_of inner m).set).kind (kind_is m l) (sym (by_kind m l) ∙ e)

  acts_in_set : (m : ℕ) → m < length sh.roles → is_finished accepted inner m ≡ false → Finished sh m (InSet (monitor_of accepted inner) m) → ⊥
  acts_in_set m l e = kind_acts sh m (InSet (monitor_of accepted inner) m) (set_at accepted m (record_of inner m).set).kind (kind_is m l) (sym (by_kind m l) ∙ e)

  -- the lowest role that is not finished by the tables is the one that closing has to answer
  pub closes : (r : Result (Unit {0}) Early) → Lowest accepted inner r → Closes sh es r
  closes (Ok done) all =
      let each = λ (m : ℕ) (l : m < length sh.roles). done_in m l (all m (omega (arith, roles, l))) in
      (λ m l. done_after m l (each m l), (closing book sh w.sheet.valid w.sheet.parted opening depth es (monitor_of accepted inner) w.stands).0 each)
  closes (Err early) low =
      let l : early.role < length sh.roles = omega (arith, roles, low.0) in (
        l,
        λ done. acts_in_set early.role l low.1 (done_before early.role l done),
        λ m h. let k : m < length sh.roles = omega arith in done_after m k (done_in m k (low.2 m h)),
        λ completes. acts_in_set early.role l low.1 ((closing book sh w.sheet.valid w.sheet.parted opening depth es (monitor_of accepted inner) w.stands).1 completes early.role l),
      )
