-- Comparing two names.
use Rattle.std.proofs.Common.{◌≡◌, ℕ, Bool, true, false, List, Decides, sym, refl, ap, ◌∙◌}
use Rattle.std.proofs.lemmas.Bool.{false_from_ne_true, false≢true}
use Rattle.sheet.specs.Names.{same}
use Rattle.sheet.proofs.Same.{same_refl, same_equal}

-- names are the same byte for byte
pub same_is : (r : Bool) (a b : List ℕ) → Decides r (a ≡ b) → r ≡ same a b
same_is true a b d = sym (sym (ap (same a) (d.0 refl)) ∙ same_refl a)
same_is false a b d = sym (false_from_ne_true (same a b) (λ t. false≢true (d.1 (same_equal a b t))))
