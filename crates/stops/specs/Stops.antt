-- Meaning: which layer refuses with a number, and what a stop is.
use Rattle.std.specs.Prelude.{ℕ, Bool, cond, ◌&&◌, ◌||◌, ◌==◌, nat_le}
use Rattle.stops.specs.declared.stop.Layer.{Layer}
use Rattle.stops.specs.declared.stop.Layer.TheVariants.{Reading, Books, Parting, Session, Program}
use Rattle.stops.specs.declared.stop.Stop.{Stop}

abbrev pub within : ℕ → ℕ → ℕ → Bool
within low high n = nat_le low n && nat_le n high

-- reading has 1 to 7, books 11 and 12, parting 21 to 25 and 71 to 79, programs 61, sessions the rest
abbrev pub layer_of_number : ℕ → Layer
layer_of_number n =
    cond (within 1 7 n) Reading
    (cond (within 11 12 n) Books
    (cond (within 21 25 n || within 71 79 n) Parting
    (cond (n == 61) Program Session)))

abbrev pub stop_of : ℕ → ℕ → ℕ → Stop
stop_of n first second = record { layer = layer_of_number n; number = n; first = first; second = second }
