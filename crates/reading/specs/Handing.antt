-- Meaning: what a sheet hands out of its own bytes.
use Rattle.std.specs.Prelude.{◌≡◌, ℕ, ◌+◌, cond, List, [], length, take, drop, IfSome, Some, None, Option, nat_lt, slice_index_or}
use Rattle.std.specs.List.{flat_map}
use Rattle.sheet.specs.declared.counts.Counts.{Counts}
use Rattle.sheet.specs.Encode.{body, pieces, begin}
use Rattle.sheet.specs.Model.{Sheet, ended}
use Rattle.reading.specs.declared.piece.Kind.{Kind}
use Rattle.reading.specs.declared.piece.Kind.TheVariants.{Role, Label, State}
use Rattle.reading.specs.declared.piece.Piece.{Piece}
use Rattle.reading.specs.declared.piece.Piece.TheVariants as piece

abbrev pub counts_of : Sheet → Counts
counts_of sh = record { roles = length sh.roles; labels = length sh.labels; states = length sh.states; rows = sh.rows }

-- how many pieces a kind has, and the number of its first among all pieces: names of roles, names of labels, states
abbrev pub piece_count_of : Counts → Kind → ℕ
piece_count_of c Role = c.roles
piece_count_of c Label = c.labels
piece_count_of c State = c.states

abbrev pub first_pair : Counts → Kind → ℕ
first_pair c Role = 0
first_pair c Label = c.roles
first_pair c State = c.roles + c.labels

-- a role's name, a label's name, or a state's bytes
abbrev pub piece_of : Sheet → Kind → ℕ → List ℕ
piece_of sh Role n = slice_index_or sh.roles n []
piece_of sh Label n = slice_index_or sh.labels n []
piece_of sh State n = body (slice_index_or sh.states n ended)

-- where the i-th of all pieces begins: after the pairs and the pieces before it
abbrev pub offset_of : Sheet → ℕ → ℕ
offset_of sh i = begin (length (pieces sh)) + length (flat_map (λ p. p) (take i (pieces sh)))

-- a piece by its kind, bytes and offset
pub record Part : Type 0 where
  pub kind : Kind
  pub bytes : List ℕ
  pub offset : ℕ

abbrev pub seen : Piece → Part
seen (piece.Role name offset) = record { kind = Role; bytes = name.now; offset = offset }
seen (piece.Label name offset) = record { kind = Label; bytes = name.now; offset = offset }
seen (piece.State bytes offset) = record { kind = State; bytes = bytes.now; offset = offset }

-- the piece of a kind and number, or none past the end
abbrev pub handed : Sheet → Kind → ℕ → Option Part
handed sh kind n =
    cond (nat_lt n (piece_count_of (counts_of sh) kind))
    (Some (record { kind = kind; bytes = piece_of sh kind n; offset = offset_of sh (first_pair (counts_of sh) kind + n) }))
    None

-- what is handed out is a part of those bytes, at its offset
abbrev pub OwnPart : List ℕ → Option Piece → Type 0
OwnPart bytes r = IfSome r (λ p. (seen p).bytes ≡ take (length (seen p).bytes) (drop (seen p).offset bytes))
