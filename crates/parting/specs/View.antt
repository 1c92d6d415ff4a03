-- Computed: a sheet's places in order, and one role's view of them: what it does itself, and the steps in which it has no part.
use Rattle.std.specs.Prelude.{ℕ, suc, true, cond, List, [], ◌∷◌, ◌++◌, map, ◌==◌}
use Rattle.std.specs.List.{flat_map}
use Rattle.sheet.specs.declared.branch.Branch.{Branch}
use Rattle.sheet.specs.Model.{State, ended, exchange, Sheet}
use Rattle.protocol.specs.Places.{Place}
use Rattle.protocol.specs.Actions.{resets_sender, resets_receiver}
use Rattle.protocol.specs.Actions as meant
use Rattle.parting.specs.declared.act.Act.{Act}
use Rattle.parting.specs.declared.act.Way.{Way}
use Rattle.parting.specs.declared.act.Way.TheVariants.{Sends, Receives}
use Rattle.parting.specs.declared.edge.Edge.{Edge}
use Rattle.parting.specs.declared.transition.Transition.{Transition}
use Rattle.parting.specs.Masks.{gather}
use Rattle.parting.specs.Spread.{spread}

abbrev pub make_place : ℕ → ℕ → ℕ → Branch → Place
make_place s sender receiver b = record { state = s; sender = sender; receiver = receiver; branch = b }

abbrev pub places_of : ℕ → State → List Place
places_of s ended = []
places_of s (exchange sender receiver branches) = map (make_place s sender receiver) branches

abbrev pub places_from : ℕ → List State → List Place
places_from s [] = []
places_from s (x ∷ xs) = places_of s x ++ places_from (suc s) xs

-- every place of the sheet, states rising and then labels rising
abbrev pub places : Sheet → List Place
places sh = places_from 0 sh.states

-- the place that a transition stands for
abbrev pub place_of : Transition → Place
place_of t = make_place t.state t.sender t.receiver t.branch

abbrev pub send_act : Place → Act
send_act p = record {
  state = p.state;
  way = Sends;
  partner = p.receiver;
  label = p.branch.label;
  row = p.branch.send;
  reset = resets_sender p.branch;
  next = p.branch.next;
}

abbrev pub receive_act : Place → Act
receive_act p = record {
  state = p.state;
  way = Receives;
  partner = p.sender;
  label = p.branch.label;
  row = p.branch.receive;
  reset = resets_receiver p.branch;
  next = p.branch.next;
}

-- what role m does in a place: one act, or none
unfoldable pub acts_at : ℕ → Place → List Act
acts_at m p = cond (m == p.sender) (send_act p ∷ []) (cond (m == p.receiver) (receive_act p ∷ []) [])

-- all that role m does
abbrev pub acts : ℕ → List Place → List Act
acts m ps = flat_map (acts_at m) ps

abbrev pub edge_of : Place → Edge
edge_of p = record { from = p.state; to = p.branch.next }

abbrev pub back_edge : Place → Edge
back_edge p = record { from = p.branch.next; to = p.state }

-- the step of a place in which role m is neither sender nor receiver
unfoldable pub silent_at : ℕ → Place → List Edge
silent_at m p = cond (m == p.sender) [] (cond (m == p.receiver) [] (edge_of p ∷ []))

abbrev pub silent_edges : ℕ → List Place → List Edge
silent_edges m ps = flat_map (silent_at m) ps

-- the action that an act stands for
abbrev pub way_of : Way → meant.Way
way_of Sends = meant.sends
way_of Receives = meant.receives

abbrev pub action_of : Act → meant.Action
action_of a = record { way = way_of a.way; partner = a.partner; label = a.label; timing = record { row = a.row; reset = a.reset } }

-- the states in which role m acts
abbrev pub acting_states_of : List Act → ℕ
acting_states_of as' = gather (λ _. true) (λ a. a.state) 0 as'

-- the states from which some state in which role m acts can be reached
unfoldable pub leading : ℕ → List Place → ℕ
leading m ps = spread (map back_edge ps) (acting_states_of (acts m ps))
