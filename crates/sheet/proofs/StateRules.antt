-- What the check of the states has to say: known roles, labels, states and rows, and labels that rise.
use Rattle.std.proofs.Common.{◌≡◌, ℕ, zero, suc, ◌+◌, ◌*◌, ◌<◌, ◌≤◌, ltb, ◌≢◌, List, [], ◌∷◌, map, length, get_or, Decides, refl, inl, inr, arith}
use Rattle.std.specs.List.{AllByRecursion}
use Rattle.std.proofs.lemmas.Bool.Decides.{Decides-and, Decides-or, Decides-not, Decides-eqb, Decides-ltb}
use Rattle.sheet.specs.declared.branch.Branch.{Branch}
use Rattle.sheet.specs.declared.counts.Counts.{Counts}
use Rattle.sheet.specs.declared.fault.ReadFault.TheVariants as fault
use Rattle.sheet.specs.Model.{State, ended, exchange, Sheet}
use Rattle.sheet.specs.Valid.{Row, GoodBranch, blank, Rising, GoodState}
use Rattle.sheet.specs.Encode.{body}
use Rattle.sheet.specs.declared.span.Span.{Span}
use Rattle.sheet.specs.Decode.{state_at}
use Rattle.sheet.specs.Refuse.{row, branch_fault, branches_fault, state_fault, states_fault}
use Rattle.sheet.proofs.Checks.{Clear, clear_unless, clear_first, clear_like, decides_leb, BodySize}
use Rattle.sheet.proofs.Bodies.{length-branch_bytes}

-- the counts are those of the sheet
pub record Counted (sh : Sheet) (c : Counts) : Type 0 where
  pub roles : length sh.roles ≡ c.roles
  pub labels : length sh.labels ≡ c.labels
  pub states : length sh.states ≡ c.states
  pub rows : sh.rows ≡ c.rows

-- the labels rise, the first from `low`
abbrev pub Above : ℕ → List Branch → Type 0
Above low [] = Unit {0}
Above low (b ∷ bs) = (low ≤ b.label) × Above (b.label + 1) bs

above_at : (low : ℕ) (bs : List Branch) → Above low bs → (j : ℕ) → j < length bs → low ≤ (get_or bs j blank).label
above_at low [] a j h = absurd (omega arith)
above_at low (b ∷ bs) a zero h = a.0
above_at low (b ∷ bs) a (suc j) h = omega (arith, a.0, above_at (b.label + 1) bs a.1 j (omega arith))

pub rising_from_above : (low : ℕ) (bs : List Branch) → Above low bs → Rising bs
rising_from_above low [] a i j h k = absurd (omega arith)
rising_from_above low (b ∷ bs) a i zero h k = absurd (omega arith)
rising_from_above low (b ∷ bs) a zero (suc j) h k = omega (arith, above_at (b.label + 1) bs a.1 j (omega arith))
rising_from_above low (b ∷ bs) a (suc i) (suc j) h k = rising_from_above (b.label + 1) bs a.1 i j (omega arith) (omega arith)

pub above_from_rising : (low : ℕ) (bs : List Branch) → ((j : ℕ) → j < length bs → low ≤ (get_or bs j blank).label) → Rising bs → Above low bs
above_from_rising low [] l r = tt
above_from_rising low (b ∷ bs) l r =
    (l zero (omega arith), above_from_rising (b.label + 1) bs (λ j h. omega (arith, r zero (suc j) (omega arith) (omega arith))) (λ i j h k. r (suc i) (suc j) (omega arith) (omega arith)))

-- a state is good apart from the number of its branches
abbrev pub Rules : Sheet → State → Type 0
Rules sh ended = Unit {0}
Rules sh (exchange sender receiver bs) =
    (sender < length sh.roles) × (((receiver < length sh.roles) × (receiver ≢ sender)) × (Above 0 bs × AllByRecursion (GoodBranch sh) bs))

pub good_from_rules : (sh : Sheet) (st : State) → BodySize (length (body st)) → Rules sh st → GoodState sh st
good_from_rules sh ended z r = tt
good_from_rules sh (exchange sender receiver bs) z r = record {
  sender_known = r.0;
  receiver_known = r.1.0.0;
  apart = r.1.0.1;
  count = (omega (arith, length-branch_bytes bs), omega (arith, length-branch_bytes bs));
  good = r.1.1.1;
  rising = rising_from_above 0 bs r.1.1.0;
}

pub rules_from_good : (sh : Sheet) (st : State) → GoodState sh st → Rules sh st
rules_from_good sh ended g = tt
rules_from_good sh (exchange sender receiver bs) g =
    (g.sender_known, ((g.receiver_known, g.apart), (above_from_rising 0 bs (λ j h. omega arith) g.rising, g.good)))

pub size_from_good : (sh : Sheet) (st : State) → GoodState sh st → BodySize (length (body st))
size_from_good sh ended g = inl refl
size_from_good sh (exchange sender receiver bs) g =
    let n : length (body (exchange sender receiver bs)) ≡ 2 + 5 * length bs = omega (arith, length-branch_bytes bs) in
    inr ((omega (arith, g.count), omega (arith, g.count)), omega (arith, g.count))

module _ (sh : Sheet) (c : Counts) (counted : Counted sh c) where
  decides_row : (r : ℕ) → Decides (row c r) (Row sh r)
  decides_row r = rw counted.rows (Decides-or _ _ (Decides-ltb r c.rows) (Decides-eqb r 255))

  decides_role : (r : ℕ) → Decides (ltb r c.roles) (r < length sh.roles)
  decides_role r = rw counted.roles (Decides-ltb r c.roles)

  decides_label : (l : ℕ) → Decides (ltb l c.labels) (l < length sh.labels)
  decides_label l = rw counted.labels (Decides-ltb l c.labels)

  decides_state : (s : ℕ) → Decides (ltb s c.states) (s < length sh.states)
  decides_state s = rw counted.states (Decides-ltb s c.states)

  pub clear_branch : (offset low : ℕ) (b : Branch) → Clear (branch_fault c offset low b) ((low ≤ b.label) × GoodBranch sh b)
  unfolding branch_fault
  clear_branch offset low b =
      clear_like _
      (λ h. (h.0.0, record { label = h.0.1; next = h.1.0; send = h.1.1.0; receive = h.1.1.1.0; resets = h.1.1.1.1 }))
      (λ h. ((h.0, h.1.label), (h.1.next, (h.1.send, (h.1.receive, h.1.resets)))))
      (clear_first _ _ (clear_unless _ (fault.State offset) (Decides-and _ _ (decides_leb low b.label) (decides_label b.label)))
      (clear_first _ _ (clear_unless _ (fault.State (offset + 1)) (decides_state b.next))
      (clear_first _ _ (clear_unless _ (fault.State (offset + 2)) (decides_row b.send))
      (clear_first _ _ (clear_unless _ (fault.State (offset + 3)) (decides_row b.receive))
      (clear_unless _ (fault.State (offset + 4)) (decides_leb b.resets 3))))))

  pub clear_branches : (offset low : ℕ) (bs : List Branch) → Clear (branches_fault c offset low bs) (Above low bs × AllByRecursion (GoodBranch sh) bs)
  clear_branches offset low [] = (λ _. (tt, tt), λ _. refl)
  clear_branches offset low (b ∷ bs) =
      clear_like _
      (λ h. ((h.0.0, h.1.0), (h.0.1, h.1.1)))
      (λ h. ((h.0.0, h.1.0), (h.0.1, h.1.1)))
      (clear_first _ _ (clear_branch offset low b) (clear_branches (offset + 5) (b.label + 1) bs))

  pub clear_state : (offset : ℕ) (st : State) → Clear (state_fault c offset st) (Rules sh st)
  clear_state offset ended = (λ _. tt, λ _. refl)
  clear_state offset (exchange sender receiver bs) =
      clear_first _ _ (clear_unless _ (fault.State offset) (decides_role sender))
      (clear_first _ _ (clear_unless _ (fault.State (offset + 1)) (Decides-and _ _ (decides_role receiver) (Decides-not _ (Decides-eqb receiver sender))))
      (clear_branches (offset + 2) 0 bs))

  pub clear_states : (bytes : List ℕ) (ss : List Span) → Clear (states_fault c bytes ss) (AllByRecursion (Rules sh) (map (state_at bytes) ss))
  clear_states bytes [] = (λ _. tt, λ _. refl)
  clear_states bytes (s ∷ ss) = clear_first _ _ (clear_state s.offset (state_at bytes s)) (clear_states bytes ss)
