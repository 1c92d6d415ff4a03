-- Roles, one after the other.
use Rattle.std.proofs.Common.{◌≡◌, ℕ, suc, ◌+◌, ◌-◌, ◌<◌, ◌≤◌, ◌⊎◌, List, [], ◌∷◌, ◌++◌, length, get_or, Some, None, sym, ap, ◌∙◌, subst, inl, inr, arith}
use Rattle.std.proofs.lemmas.List.{get_or_append_left, get_or_push}
use Rattle.std.proofs.lemmas.Bool.{cases_eq}
use Rattle.sheet.specs.Model.{Sheet}
use Rattle.sheet.specs.Valid.{Valid}
use Rattle.protocol.specs.Accepted.{HasPart, Accepted}
use Rattle.parting.specs.declared.fault.PartFault.{PartFault}
use Rattle.parting.specs.declared.local.Part.{Part}
use Rattle.parting.specs.Family.{view_of, sets, stopped}
use Rattle.parting.specs.Local.{LocalOf}
use Rattle.parting.specs.Parts.{Parted, family, fault_from, part_fault}
use Rattle.parting.specs.View.{places}
use Rattle.parting.proofs.Acceptance.{accepted, refused, has_part}
use Rattle.parting.proofs.Locals.{local_of}

module _ (sh : Sheet) where
  pub faults_more : (m n : ℕ) (found : List ℕ) → m < n → family sh m ≡ sets found → fault_from sh m (n - m) ≡ fault_from sh (m + 1) (n - (m + 1))
  faults_more m n found h e =
      let k : n - m ≡ suc (n - (m + 1)) = omega arith in
      ap (fault_from sh m) k ∙ rw (e, fault_from)

  pub faults_stop : (m n : ℕ) (f : PartFault) → m < n → family sh m ≡ stopped f → fault_from sh m (n - m) ≡ Some f
  faults_stop m n f h e =
      let k : n - m ≡ suc (n - (m + 1)) = omega arith in
      ap (fault_from sh m) k ∙ rw (e, fault_from)

  pub faults_all : (m n : ℕ) → n ≤ m → fault_from sh m (n - m) ≡ None
  faults_all m n h = let k : n - m ≡ 0 = omega arith in ap (fault_from sh m) k

  pub faults_start : fault_from sh 0 (length sh.roles - 0) ≡ part_fault sh
  unfolding part_fault
  faults_start = let k : length sh.roles - 0 ≡ length sh.roles = omega arith in ap (fault_from sh 0) k

  -- the table of role m
  abbrev pub Tabled : ℕ → Part → Type 0
  Tabled m part = Parted (view_of m (places sh)) m (length sh.labels) part

  pub tabled_more : (parts : List Part) (i : ℕ) (part : Part) → length parts ≡ i → Tabled i part → ((m : ℕ) → m < i → (d : Part) → Tabled m (get_or parts m d))
      → (m : ℕ) → m < i + 1 → (d : Part) → Tabled m (get_or (parts ++ part ∷ []) m d)
  tabled_more parts i part n t below m l d = go (cases_eq m i)
    where
      go : (m ≡ i) ⊎ (m ≡ i → ⊥) → Tabled m (get_or (parts ++ part ∷ []) m d)
      go (inl q) = subst (λ k. Tabled k (get_or (parts ++ part ∷ []) k d)) (sym q) (subst (Tabled i) (sym (get_or_push parts part d i n)) t)
      go (inr u) = subst (Tabled m) (sym (get_or_append_left parts (part ∷ []) d m (omega arith))) (below m (omega arith) d)

  pub tabled_part : Valid sh → (m : ℕ) (part : Part) → Tabled m part → HasPart sh m
  tabled_part valid m part t = has_part sh valid m t.found (accepted sh valid m t.found t.are)

  pub tabled_local : Valid sh → (m : ℕ) (part : Part) → Tabled m part → LocalOf sh m part
  tabled_local valid m part t = local_of sh valid m t.found (accepted sh valid m t.found t.are) part t.table

  pub stopped_refused : Valid sh → (m : ℕ) (f : PartFault) → m < length sh.roles → family sh m ≡ stopped f → Accepted sh → ⊥
  stopped_refused valid m f h e all = refused sh valid m f e (all m h)
