-- Meaning: finding a label by its name.
use Rattle.std.specs.Prelude.{◌≡◌, ℕ, ◌<◌, true, [], length, Some, None, Option, ◌≢◌, slice_index_or}
use Rattle.sheet.specs.Model.{Name, Sheet}
use Rattle.sheet.specs.Names.{same}

-- label i has that name
abbrev pub Called : Sheet → Name → ℕ → Type 0
Called sh name i = (i < length sh.labels) × (same (slice_index_or sh.labels i []) name ≡ true)

-- the one label with that name, or none where no label has it
abbrev pub Finds : Sheet → Name → Option ℕ → Type 0
Finds sh name None = (i : ℕ) → Called sh name i → ⊥
Finds sh name (Some i) = Called sh name i × ((j : ℕ) → Called sh name j → j ≡ i)

-- names are the same byte for byte
abbrev pub FindsExactly : Sheet → Name → Option ℕ → Type 0
FindsExactly sh name None = (i : ℕ) → i < length sh.labels → slice_index_or sh.labels i [] ≢ name
FindsExactly sh name (Some i) = (i < length sh.labels) × (slice_index_or sh.labels i [] ≡ name)
