-- Meaning: the bytes of a piece that is a state.
use Rattle.std.specs.Prelude.{ℕ, List, [], Some, None, Option}
use Rattle.reading.specs.declared.piece.Piece.{Piece}
use Rattle.reading.specs.declared.piece.Piece.TheVariants.{Role, Label, State}

abbrev pub body_in : Option Piece → List ℕ
body_in None = []
body_in (Some (Role name offset)) = []
body_in (Some (Label name offset)) = []
body_in (Some (State bytes offset)) = bytes.now
