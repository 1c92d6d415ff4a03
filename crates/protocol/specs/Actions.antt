-- Meaning: what a place asks of one role.
use Rattle.std.specs.Prelude.{ℕ, ◌/◌, ◌%◌, Bool, cond, List, [], ◌∷◌, ◌==◌}
use Rattle.sheet.specs.declared.branch.Branch.{Branch}
use Rattle.protocol.specs.Places.{Place}

pub data Way : Type 0 where
  sends receives : Way

-- what an action asks of its role's clock: the time row that it is held to, and whether it resets the clock
pub record Timing : Type 0 where
  pub row : ℕ
  pub reset : Bool

pub record Action : Type 0 where
  pub way : Way
  pub partner : ℕ
  pub label : ℕ
  pub timing : Timing

-- resets: 1 is the sender's clock, 2 the receiver's, 3 both
abbrev pub resets_sender : Branch → Bool
resets_sender b = b.resets % 2 == 1

abbrev pub resets_receiver : Branch → Bool
resets_receiver b = b.resets / 2 % 2 == 1

abbrev pub sending : Place → Action
sending p = record {
  way = sends;
  partner = p.receiver;
  label = p.branch.label;
  timing = record { row = p.branch.send; reset = resets_sender p.branch };
}

abbrev pub receiving : Place → Action
receiving p = record {
  way = receives;
  partner = p.sender;
  label = p.branch.label;
  timing = record { row = p.branch.receive; reset = resets_receiver p.branch };
}

-- role m's actions in a place: one, or none where m is neither sender nor receiver
unfoldable pub turn : ℕ → Place → List Action
turn m p = cond (m == p.sender) (sending p ∷ []) (cond (m == p.receiver) (receiving p ∷ []) [])
