-- Computed: what bytes say when they are read as a sheet. That this is the inverse of the encoding is a law (Law.antt).
use Rattle.std.specs.Prelude.{ℕ, zero, suc, ◌+◌, ◌*◌, List, [], ◌∷◌, map, take, drop, slice_index}
use Rattle.sheet.specs.declared.branch.Branch.{Branch}
use Rattle.sheet.specs.declared.counts.Counts.{Counts}
use Rattle.sheet.specs.declared.span.Span.{Span}
use Rattle.sheet.specs.Model.{State, ended, exchange, Sheet}

abbrev pub byte : List ℕ → ℕ → ℕ
byte bytes k = slice_index bytes k

abbrev pub counts : List ℕ → Counts
counts bytes = record { roles = byte bytes 1; labels = byte bytes 2; states = byte bytes 3; rows = byte bytes 4 }

-- how many names there are, and how many pieces
abbrev pub name_count_of : Counts → ℕ
name_count_of c = c.roles + c.labels

abbrev pub piece_count_in : Counts → ℕ
piece_count_in c = name_count_of c + c.states

abbrev pub number : List ℕ → ℕ → ℕ
number bytes k = byte bytes k * 256 + byte bytes (k + 1)

abbrev pub span : List ℕ → Span
span bytes = record { offset = number bytes 0; size = number bytes 2 }

-- the first n pairs
abbrev pub spans : ℕ → List ℕ → List Span
spans zero bytes = []
spans (suc n) bytes = span bytes ∷ spans n (drop 4 bytes)

-- the pairs of a sheet, of its role names, its label names and its states
unfoldable pub table : List ℕ → List Span
table bytes = spans (piece_count_in (counts bytes)) (drop 5 bytes)

abbrev pub role_spans : List ℕ → List Span
role_spans bytes = take (counts bytes).roles (table bytes)

abbrev pub label_spans : List ℕ → List Span
label_spans bytes = take (counts bytes).labels (drop (counts bytes).roles (table bytes))

abbrev pub state_spans : List ℕ → List Span
state_spans bytes = drop (name_count_of (counts bytes)) (table bytes)

-- the piece at a span
abbrev pub cut : List ℕ → Span → List ℕ
cut bytes s = take s.size (drop s.offset bytes)

-- five bytes a branch
abbrev pub branches : List ℕ → List Branch
branches [] = []
branches (a ∷ []) = []
branches (a ∷ b ∷ []) = []
branches (a ∷ b ∷ c ∷ []) = []
branches (a ∷ b ∷ c ∷ d ∷ []) = []
branches (a ∷ b ∷ c ∷ d ∷ e ∷ rest) = record { label = a; next = b; send = c; receive = d; resets = e } ∷ branches rest

abbrev pub state_of : List ℕ → State
state_of [] = ended
state_of (sender ∷ []) = ended
state_of (sender ∷ receiver ∷ rest) = exchange sender receiver (branches rest)

abbrev pub state_at : List ℕ → Span → State
state_at bytes s = state_of (cut bytes s)

unfoldable pub model : List ℕ → Sheet
model bytes = record {
  roles = map (cut bytes) (role_spans bytes);
  labels = map (cut bytes) (label_spans bytes);
  states = map (state_at bytes) (state_spans bytes);
  rows = (counts bytes).rows;
}
