-- Meaning: what a ring of slots holds.
use Rattle.std.specs.Prelude.{ℕ, Bool, ◌&&◌, List, ◌++◌, take, drop, nat_le, nat_lt}

-- from the oldest element to the newest
unfoldable pub held : {X : Type 0} → List X → ℕ → ℕ → List X
held slots first count = take count (drop first (slots ++ slots))

-- a queue of `count` elements, the oldest in slot `first`, can stand in so many slots
abbrev pub within : ℕ → ℕ → ℕ → Bool
within slots first count = nat_lt first slots && nat_le count slots
