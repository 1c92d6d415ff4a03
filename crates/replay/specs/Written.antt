-- Meaning: what a call leaves of the caller's output.
use Rattle.std.specs.Prelude.{◌≡◌, ℕ, ◌≤◌, List, length, drop}

-- at most its first n bytes are written, and it has so many
abbrev pub Kept : ℕ → List ℕ → List ℕ → Type 0
Kept n before after = (n ≤ length before) × (drop n after ≡ drop n before)
