-- Computed: which fault bytes have, in the order of the stop table. That there is none exactly for the encodings of
-- valid sheets is a law (Law.antt).
use Rattle.std.specs.Prelude.{ℕ, ◌+◌, ◌%◌, Bool, false, cond, not, ◌&&◌, ◌||◌, List, [], ◌∷◌, ◌++◌, length, Some, None, Option, ◌==◌, nat_le, nat_lt}
use Rattle.sheet.specs.declared.branch.Branch.{Branch}
use Rattle.sheet.specs.declared.counts.Counts.{Counts}
use Rattle.sheet.specs.declared.fault.ReadFault.{ReadFault}
use Rattle.sheet.specs.declared.span.Span.{Span}
use Rattle.sheet.specs.declared.fault.ReadFault.TheVariants.{Short, Edition, Count, Pair, Byte, Twice, State}
use Rattle.sheet.specs.Model.{Name, ended, exchange}
use Rattle.sheet.specs.Model as model
use Rattle.sheet.specs.Names.{same}
use Rattle.sheet.specs.Encode.{begin}
use Rattle.sheet.specs.Decode.{byte, counts, name_count_of, piece_count_in, table, role_spans, label_spans, state_spans, cut, state_at}

-- the fault, unless the test holds
abbrev pub unless : Bool → ReadFault → Option ReadFault
unless holds fault = cond holds None (Some fault)

-- the first fault of two checks
abbrev pub first : Option ReadFault → Option ReadFault → Option ReadFault
first (Some fault) later = Some fault
first None later = later

abbrev pub within : ℕ → ℕ → ℕ → Bool
within low high n = nat_le low n && nat_le n high

-- stop 3
unfoldable pub count_fault : Counts → Option ReadFault
count_fault c =
    first (unless (within 2 6 c.roles) (Count 1))
    (first (unless (within 1 32 c.labels) (Count 2))
    (first (unless (within 1 64 c.states) (Count 3))
    (unless (nat_le c.rows 64) (Count 4))))

-- stops 1 to 3
unfoldable pub header_fault : List ℕ → Option ReadFault
header_fault bytes =
    first (unless (nat_le 5 (length bytes)) (Short (length bytes)))
    (first (unless (byte bytes 0 == 1) Edition)
    (first (count_fault (counts bytes))
    (unless (nat_le (begin (piece_count_in (counts bytes))) (length bytes)) (Short (length bytes)))))

abbrev pub name_size : ℕ → Bool
name_size n = within 1 12 n

-- none, or two bytes and five for each of 1 to 8 branches
abbrev pub state_size : ℕ → Bool
state_size n = n == 0 || (within 7 42 n && n % 5 == 2)

-- the lengths that a piece may have: of a name, or of a state
abbrev pub sized : Bool → ℕ → Bool
sized named n = cond named (name_size n) (state_size n)

-- a pair whose piece begins at `at` and ends by `limit`
unfoldable pub placed : ℕ → Bool → ℕ → Span → Bool
placed limit named at s = s.offset == at && (sized named s.size && nat_le (at + s.size) limit)

-- stop 4: pair i and those after it, the first of which begins at `at`; the pairs below `names` are names'
abbrev pub pair_fault : ℕ → ℕ → ℕ → ℕ → List Span → Option ReadFault
pair_fault limit names i at [] = unless (at == limit) (Pair i)
pair_fault limit names i at (s ∷ ss) = first (unless (placed limit (nat_lt i names) at s) (Pair i)) (pair_fault limit names (i + 1) (at + s.size) ss)

-- stop 5: a name's bytes, the first of which is at that offset
abbrev pub byte_fault : ℕ → Name → Option ReadFault
byte_fault offset [] = None
byte_fault offset (b ∷ bs) = first (unless (within 0x21 0x7E b) (Byte offset)) (byte_fault (offset + 1) bs)

abbrev pub among : Name → List Name → Bool
among name [] = false
among name (earlier ∷ rest) = same name earlier || among name rest

-- stops 5 and 6, name by name: the names of one kind from pair i on, after the earlier ones
abbrev pub name_fault : List ℕ → ℕ → List Name → List Span → Option ReadFault
name_fault bytes i earlier [] = None
name_fault bytes i earlier (s ∷ ss) =
    first (byte_fault s.offset (cut bytes s))
    (first (unless (not (among (cut bytes s) earlier)) (Twice i))
    (name_fault bytes (i + 1) (earlier ++ cut bytes s ∷ []) ss))

abbrev pub row : Counts → ℕ → Bool
row c r = nat_lt r c.rows || r == 255

-- stop 7 in a branch at that offset, whose label is at least `low`
unfoldable pub branch_fault : Counts → ℕ → ℕ → Branch → Option ReadFault
branch_fault c offset low b =
    first (unless (nat_le low b.label && nat_lt b.label c.labels) (State offset))
    (first (unless (nat_lt b.next c.states) (State (offset + 1)))
    (first (unless (row c b.send) (State (offset + 2)))
    (first (unless (row c b.receive) (State (offset + 3)))
    (unless (nat_le b.resets 3) (State (offset + 4))))))

abbrev pub branches_fault : Counts → ℕ → ℕ → List Branch → Option ReadFault
branches_fault c offset low [] = None
branches_fault c offset low (b ∷ bs) = first (branch_fault c offset low b) (branches_fault c (offset + 5) (b.label + 1) bs)

-- stop 7 in a state at that offset
abbrev pub state_fault : Counts → ℕ → model.State → Option ReadFault
state_fault c offset ended = None
state_fault c offset (exchange sender receiver bs) =
    first (unless (nat_lt sender c.roles) (State offset))
    (first (unless (nat_lt receiver c.roles && not (receiver == sender)) (State (offset + 1)))
    (branches_fault c (offset + 2) 0 bs))

abbrev pub states_fault : Counts → List ℕ → List Span → Option ReadFault
states_fault c bytes [] = None
states_fault c bytes (s ∷ ss) = first (state_fault c s.offset (state_at bytes s)) (states_fault c bytes ss)

-- the order: header, pairs, role names, label names, states
abbrev pub table_fault : List ℕ → Option ReadFault
table_fault bytes = pair_fault (length bytes) (name_count_of (counts bytes)) 0 (begin (piece_count_in (counts bytes))) (table bytes)

unfoldable pub fault : List ℕ → Option ReadFault
fault bytes =
    first (header_fault bytes)
    (first (table_fault bytes)
    (first (name_fault bytes 0 [] (role_spans bytes))
    (first (name_fault bytes (counts bytes).roles [] (label_spans bytes))
    (states_fault (counts bytes) bytes (state_spans bytes)))))
