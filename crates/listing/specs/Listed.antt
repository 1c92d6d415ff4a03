-- Meaning: what is printed for an input: the page of the sheet that it encodes and what its parting gives, or its stop alone.
use Rattle.std.specs.Prelude.{◌≡◌, ℕ, cond, List, length, Some, None, Ok, Err, Option, Result, nat_lt}
use Rattle.std.specs.Option.{option_map}
use Rattle.stops.specs.Stops.{stop_of}
use Rattle.stops.specs.declared.stop.Stop.{Stop}
use Rattle.text.specs.StopLine.{line_of_stop}
use Rattle.sheet.specs.Decode.{model}
use Rattle.sheet.specs.Model.{Sheet}
use Rattle.sheet.specs.Refuse.{fault}
use Rattle.sheet.specs.Stop.{stopped}
use Rattle.parting.specs.declared.accepted.Accepted.{Accepted}
use Rattle.parting.specs.Parts.{part_fault}
use Rattle.parting.specs.Stop.{stopped as unparted}
use Rattle.listing.specs.declared.fault.ListFault.{ListFault}
use Rattle.listing.specs.declared.fault.ListFault.TheVariants.{Cut, Reading, Parting}
use Rattle.part_page.specs.Parts.{part_lines, PartingTold}

-- too long an input is judged before everything else
unfoldable pub input_fault : List ℕ → Option ListFault
input_fault input = cond (nat_lt 65535 (length input)) (Some Cut) (option_map Reading (fault input))

abbrev pub stop_for : ListFault → Stop
stop_for Cut = stop_of 61 0 0
stop_for (Reading fault) = stopped fault
stop_for (Parting fault) = unparted fault

-- a sheet is parted once it is read
abbrev pub parted_by : Option ListFault → Sheet → Option ListFault
parted_by None sh = option_map Parting (part_fault sh)
parted_by (Some fault) sh = Some fault

unfoldable pub parted_fault : List ℕ → Option ListFault
parted_fault input = parted_by (input_fault input) (model input)

-- what follows the page: the parts, or the stop
abbrev pub parting_text : Sheet → Result Accepted ListFault → List ℕ
parting_text sh (Ok a) = part_lines sh a
parting_text sh (Err fault) = line_of_stop (stop_for fault)

abbrev pub Told : Option ListFault → Sheet → List ℕ → Type 0
Told None sh text = PartingTold sh text
Told (Some fault) sh text = text ≡ line_of_stop (stop_for fault)

unfoldable pub Listed : List ℕ → List ℕ → Type 0
Listed input text = Told (input_fault input) (model input) text
