-- What each check has to do with the fact that it checks: it finds no fault exactly where the fact holds.
use Rattle.std.proofs.Common.{◌≡◌, ℕ, ◌%◌, ◌≤◌, Bool, true, false, leb, ◌⊎◌, ◌↔◌, Some, None, Decides, Option, refl}
use Rattle.std.proofs.lemmas.Bool.{false≢true, leb-true, le-leb}
use Rattle.std.proofs.lemmas.Bool.Decides.{Decides-and, Decides-or, Decides-eqb}
use Rattle.sheet.specs.declared.fault.ReadFault.{ReadFault}
use Rattle.sheet.specs.Refuse.{unless, first, within, state_size}
use Rattle.sheet.specs.Valid.{Between}

abbrev pub Clear : Option ReadFault → Type 0 → Type 0
Clear found P = (found ≡ None) ↔ P

pub clear_unless : {P : Type 0} (t : Bool) (f : ReadFault) → Decides t P → Clear (unless t f) P
clear_unless true f d = (λ e. d.0 refl, λ h. refl)
clear_unless false f d = (λ e. absurd cc, λ h. absurd (false≢true (d.1 h)))

pub clear_first : {P Q : Type 0} (a b : Option ReadFault) → Clear a P → Clear b Q → Clear (first a b) (P × Q)
clear_first None b p q = (λ e. (p.0 refl, q.0 e), λ h. q.1 h.1)
clear_first (Some f) b p q = (λ e. absurd cc, λ h. absurd (cc (p.1 h.0)))

pub clear_like : {P Q : Type 0} (a : Option ReadFault) → (P → Q) → (Q → P) → Clear a P → Clear a Q
clear_like a there back p = (λ e. there (p.0 e), λ h. p.1 (back h))

pub decides_leb : (a b : ℕ) → Decides (leb a b) (a ≤ b)
decides_leb a b = (leb-true a b, le-leb a b)

pub decides_within : (low high n : ℕ) → Decides (within low high n) (Between low high n)
decides_within low high n = Decides-and (leb low n) (leb n high) (decides_leb low n) (decides_leb n high)

-- the length of a state's bytes
abbrev pub BodySize : ℕ → Type 0
BodySize n = (n ≡ 0) ⊎ (Between 7 42 n × (n % 5 ≡ 2))

pub decides_state_size : (n : ℕ) → Decides (state_size n) (BodySize n)
decides_state_size n = Decides-or _ _ (Decides-eqb n 0) (Decides-and _ _ (decides_within 7 42 n) (Decides-eqb (n % 5) 2))
