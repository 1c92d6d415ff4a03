-- Closing: all roles are finished exactly when the events are all of a path to an end.
use Rattle.std.proofs.Common.{◌≡◌, ℕ, ◌<◌, ◌≤◌, ◌⊎◌, List, [], ◌∷◌, length, get_or, refl, subst, inl, inr, arith}
use mathlib.Core.List.Memᴰ
use Rattle.std.proofs.lemmas.List.{get_or_past}
use Rattle.std.proofs.ByRecursion.{All-get_or}
use Rattle.std.proofs.lemmas.Bool.{cases_lt}
use Rattle.sheet.specs.declared.branch.Branch.{Branch}
use Rattle.sheet.specs.Model.{Sheet, State, ended, exchange}
use Rattle.sheet.specs.Valid.{GoodExchange, GoodState, Valid}
use Rattle.protocol.specs.Places.{Place, Has}
use Rattle.protocol.specs.Actions.{Action, sending}
use Rattle.protocol.specs.Paths.{end_of, share}
use Rattle.protocol.specs.Sets.{Acts}
use Rattle.protocol.specs.Sound.{Reaches, now, later, Sound}
use Rattle.protocol.proofs.Turns.{turn_sender}
use Rattle.runs.specs.Events.{own, labels}
use Rattle.runs.specs.Run.{Book}
use Rattle.runs.specs.Monitor.{InSet}
use Rattle.runs.specs.Stands.{SetAfter}
use Rattle.runs.specs.Closing.{Finished, Completes}
use Rattle.runs.specs.Laws.{Closing}
use Rattle.runs.proofs.Clocks.{beginning}
use Rattle.runs.proofs.Judging.{accepted_steady}
use Rattle.runs.proofs.Rebuild.{Goal}
use Rattle.runs.proofs.Agree.{on_path, path_for}
use Rattle.runs.proofs.Shares.{path_inside}

-- from an end nothing is reached
pub end_reaches : (sh : Sheet) (m s : ℕ) → get_or sh.states s ended ≡ ended → Reaches sh m s → ⊥
end_reaches sh m s q (now a i) = cc (i.1.at, i.1.has.stands)
end_reaches sh m s q (later p hp ps l) = cc (ps, hp.stands)

-- a state in which no role acts is an end
still_end : (sh : Sheet) → Valid sh → (s : ℕ) → ((m : ℕ) → m < length sh.roles → (a : Action) → Acts sh m s a → ⊥) → get_or sh.states s ended ≡ ended
still_end sh valid s still = go (cases_lt s (length sh.states)) (get_or sh.states s ended) refl
  where
    acting : (a b : ℕ) (bs : List Branch) → get_or sh.states s ended ≡ exchange a b bs → GoodExchange sh a b bs → ⊥
    acting a b [] q good = omega (arith, good.count.0)
    acting a b (c ∷ bs) q good =
        let p : Place = record { state = s; sender = a; receiver = b; branch = c } in
        let h : Has sh p = record { branches = c ∷ bs; stands = q; among = Memᴰ.head refl } in
        still a good.sender_known (sending p) (c.next, record { place = p; has = h; at = refl; acts = turn_sender a p refl; leads = refl })

    go : (s < length sh.states) ⊎ (length sh.states ≤ s) → (x : State) → get_or sh.states s ended ≡ x → get_or sh.states s ended ≡ ended
    go (inr l) x q = get_or_past sh.states s ended l
    go (inl l) ended q = q
    go (inl l) (exchange a b bs) q = absurd (acting a b bs q (subst (GoodState sh) q (All-get_or (GoodState sh) sh.states s ended l valid.good_states)))

pub closing : (book : Book) → Closing book
closing book sh valid accepted o d es σ k = (complete, finish)
  where
    Known : ℕ → Type 0
    Known m = m < length sh.roles

    complete : ((m : ℕ) → m < length sh.roles → Finished sh m (InSet σ m)) → Completes sh es
    complete finished =
        let goal : Goal sh book Known 0 (λ m. o) es =
        path_for sh book valid (accepted_steady sh accepted) o d Known es (λ m. (on_path sh book o d es k.run m).accepts) k.run.channels
        (λ m l s x. finished m l s ((k.set m s l).1 x)) in
        record {
          path = goal.path;
          leads = goal.leads;
          ends = still_end sh valid (end_of 0 goal.path) goal.still;
          shares = λ m l. record { begin = beginning book o (own m es) (share m goal.path) (goal.shares m); all = goal.whole m l };
        }

    finish : Completes sh es → (m : ℕ) → m < length sh.roles → Finished sh m (InSet σ m)
    finish c m l s x a i =
        let inside = path_inside sh m es (end_of 0 c.path) (record { path = c.path; leads = c.leads; shares = c.shares m l; ends = refl }) in
        let ok : Sound sh m (SetAfter sh m es) = (accepted m l).sound (labels (own m es)) inside.0 in
        end_reaches sh m (end_of 0 c.path) c.ends (ok.told s ((k.set m s l).0 x) a i (end_of 0 c.path) inside.1)
