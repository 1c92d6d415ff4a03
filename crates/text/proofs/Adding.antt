-- A text that grows step by step.
use Rattle.std.proofs.Common.{◌≡◌, ℕ, List, ◌++◌, IfOk, Ok, Err, Result, ap, ◌∙◌, append_assoc}

-- x is the text at the start, y what it is after `a` was added, z what it is after `b` was added too
pub further : (x y z a b : List ℕ) → y ≡ x ++ a → z ≡ y ++ b → z ≡ x ++ (a ++ b)
further x y z a b before after = after ∙ ap (λ t. t ++ b) before ∙ append_assoc x a b

-- the last step, after which the whole was added
pub ends : {T E : Type 0} (r : Result T E) (x y z a b whole : List ℕ) → y ≡ x ++ a → a ++ b ≡ whole → IfOk r (λ _. z ≡ y ++ b) → IfOk r (λ _. z ≡ x ++ whole)
ends (Ok t) x y z a b whole before e after = further x y z a b before after ∙ ap (λ w. x ++ w) e
ends (Err e) x y z a b whole before _ after = tt
