-- Meaning: the bytes of every piece of a kind, in order.
use Rattle.std.specs.Prelude.{ℕ, List, map}
use Rattle.sheet.specs.Encode.{body}
use Rattle.sheet.specs.Model.{Sheet}
use Rattle.reading.specs.declared.piece.Kind.{Kind}
use Rattle.reading.specs.declared.piece.Kind.TheVariants.{Role, Label, State}

abbrev pub pieces_of : Sheet → Kind → List (List ℕ)
pieces_of sh Role = sh.roles
pieces_of sh Label = sh.labels
pieces_of sh State = map body sh.states
