-- Meaning: the table of stops, and what it means to find a word in it.
use Rattle.std.specs.Prelude.{◌≡◌, ℕ, ◌<◌, cond, List, [], ◌∷◌, length, Some, None, codes, Option, ◌==◌, ◌≢◌, slice_index_or}

-- a number and its word
abbrev pub Row : Type 0
Row = ℕ × List ℕ

abbrev pub words : List Row
words =
    (1, codes "SHORT") ∷ (2, codes "EDITION") ∷ (3, codes "COUNT") ∷ (4, codes "PAIR") ∷ (5, codes "BYTE")
    ∷ (6, codes "TWICE") ∷ (7, codes "STATE") ∷ (11, codes "ROWS") ∷ (12, codes "ROW") ∷ (21, codes "CROSSED")
    ∷ (22, codes "OFFER") ∷ (23, codes "CLASH") ∷ (24, codes "UNTOLD") ∷ (25, codes "SETS") ∷ (31, codes "BOOK")
    ∷ (32, codes "DEPTH") ∷ (41, codes "WHO") ∷ (42, codes "WHAT") ∷ (43, codes "BACK") ∷ (44, codes "TURN")
    ∷ (45, codes "LINE") ∷ (46, codes "FULL") ∷ (47, codes "TIME") ∷ (51, codes "EARLY") ∷ (61, codes "CUT") ∷ []

-- the word of the first row with that number
abbrev pub word_of : ℕ → List Row → Option (List ℕ)
word_of n [] = None
word_of n (row ∷ rows) = cond (row.0 == n) (Some row.1) (word_of n rows)

abbrev pub blank : Row
blank = (0, [])

-- each row's number is below that of every later row
abbrev pub Rising : List Row → Type 0
Rising rows = (i j : ℕ) → i < j → j < length rows → (slice_index_or rows i blank).0 < (slice_index_or rows j blank).0

-- each row's word is the one found for its number, and a number of no row has no word
pub record Named (rows : List Row) : Type 0 where
  pub found : (i : ℕ) → i < length rows → word_of (slice_index_or rows i blank).0 rows ≡ Some (slice_index_or rows i blank).1
  pub absent : (n : ℕ) → ((i : ℕ) → i < length rows → (slice_index_or rows i blank).0 ≢ n) → word_of n rows ≡ None
