-- Meaning: the line that tells a stop.
use Rattle.std.specs.Prelude.{ℕ, List, [], ◌∷◌, ◌++◌, codes, decimal}
use Rattle.std.specs.Option.{unwrap_or}
use Rattle.stops.specs.Words.{words, word_of}
use Rattle.stops.specs.declared.stop.Stop.{Stop}
use Rattle.text.specs.Lines.{line}

-- the word of a number in the table of stops
abbrev pub word_of_number : ℕ → List ℕ
word_of_number number = unwrap_or (word_of number words) []

-- a number and its word
abbrev pub named : ℕ → List ℕ
named number = decimal number ++ (codes " " ++ word_of_number number)

unfoldable pub line_of_stop : Stop → List ℕ
line_of_stop stop =
    line (codes "STOP " ∷ decimal stop.number ∷ codes " " ∷ word_of_number stop.number ∷ codes " " ∷ decimal stop.first ∷ codes " " ∷ decimal stop.second ∷ [])
