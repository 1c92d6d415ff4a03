-- What an opened session keeps is what a monitor keeps at first.
use Rattle.std.proofs.Common.{◌≡◌, ℕ, ◌<◌, ◌≤◌, [], length, get_or, replicate, Decides, sym, ap, ◌∙◌, subst, arith}
use lib.ListN.{get_or-replicate}
use Rattle.channels.specs.Waiting.{channel}
use Rattle.sheet.specs.Model.{Sheet}
use Rattle.protocol.specs.Sets.{Start}
use Rattle.parting.specs.declared.accepted.Accepted.{Accepted}
use Rattle.parting.specs.Blank.{no_part}
use Rattle.parting.specs.Masks.{has}
use Rattle.runs.specs.Run.{Book}
use Rattle.runs.specs.Monitor.{Opened}
use Rattle.runs.proofs.Foresee.{keeping}
use Rattle.runs.proofs.Judging.{accepted_steady}
use Rattle.session.specs.declared.inner.Inner.{Inner}
use Rattle.session.specs.declared.record.Record.{Record}
use Rattle.session.specs.Kept.{no_record, no_set, record_of, set_at, monitor_of}
use Rattle.session.specs.Watches.{IsOf, Watches}

-- a sheet has at most six roles
pub role_few : (sh : Sheet) (accepted : Accepted) → IsOf sh accepted → (m : ℕ) → m < length sh.roles → m < 6
role_few sh accepted is m l = omega (arith, ap (λ k. k.roles) is.parts.counts, accepted.few)

abbrev pub first : ℕ → Record
first opening = record { set = 0; since = opening }

module _ (sh : Sheet) (accepted : Accepted) (is : IsOf sh accepted) (opening : ℕ) (inner : Inner) (records : inner.records ≡ replicate 6 (first opening)) where
  at_first : (m : ℕ) → m < length sh.roles → record_of inner m ≡ first opening
  at_first m l =
      ap (λ rs. get_or rs m no_record) records ∙ get_or-replicate 6 m (first opening) no_record (role_few sh accepted is m l)

  opened : ((a b : ℕ) → channel inner.channels a b ≡ []) → inner.latest ≡ opening → Opened sh opening (monitor_of accepted inner)
  opened nothing latest = record {
    set = λ m s l. subst (λ (r : Record). Decides (has (set_at accepted m r.set).states s) (Start sh m s)) (sym (at_first m l)) ((is.parts.local m l no_part).start no_set s);
    since = λ m l. ap (λ r. r.since) (at_first m l);
    channel = λ a b _ _. nothing a b;
    latest = latest;
  }

  -- no event has passed yet
  pub begun : (book : Book) (depth : ℕ) → inner.depth ≡ depth → depth ≤ 8 → ((a b : ℕ) → channel inner.channels a b ≡ []) → inner.latest ≡ opening → Watches sh book opening depth [] accepted inner
  begun book depth kept shallow nothing latest = record {
    sheet = is;
    depth_kept = kept;
    shallow = shallow;
    numbers = λ m l. subst (λ (r : Record). r.set < (get_or accepted.parts.items m no_part).count) (sym (at_first m l)) (is.parts.local m l no_part).some;
    stands = (keeping book sh is.valid (accepted_steady sh is.parted) opening depth).opens (monitor_of accepted inner) (opened nothing latest);
  }
