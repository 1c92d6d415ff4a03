-- Meaning: which sheets are valid.
use Rattle.std.specs.Prelude.{◌≡◌, ℕ, ◌<◌, ◌≤◌, true, ◌≢◌, ◌⊎◌, List, [], length, get_or, slice_index_or}
use Rattle.std.specs.List.{AllByRecursion}
use Rattle.sheet.specs.declared.branch.Branch.{Branch}
use Rattle.sheet.specs.Model.{Name, State, ended, exchange, Sheet}
use Rattle.sheet.specs.Names.{same}

abbrev pub Between : ℕ → ℕ → ℕ → Type 0
Between low high n = (low ≤ n) × (n ≤ high)

-- 1 to 12 printable bytes, no space
abbrev pub GoodName : Name → Type 0
GoodName name = Between 1 12 (length name) × AllByRecursion (Between 0x21 0x7E) name

-- no two of the names are the same
abbrev pub Distinct : List Name → Type 0
Distinct names = (i j : ℕ) → i < j → j < length names → same (slice_index_or names j []) (slice_index_or names i []) ≢ true

-- a time row of the book, or any time
abbrev pub Row : Sheet → ℕ → Type 0
Row sh row = (row < sh.rows) ⊎ (row ≡ 255)

pub record GoodBranch (sh : Sheet) (b : Branch) : Type 0 where
  pub label : b.label < length sh.labels
  pub next : b.next < length sh.states
  pub send : Row sh b.send
  pub receive : Row sh b.receive
  pub resets : b.resets ≤ 3

abbrev pub blank : Branch
blank = record { label = 0; next = 0; send = 0; receive = 0; resets = 0 }

-- each branch's label is below that of every later one
abbrev pub Rising : List Branch → Type 0
Rising branches = (i j : ℕ) → i < j → j < length branches → (get_or branches i blank).label < (get_or branches j blank).label

pub record GoodExchange (sh : Sheet) (sender receiver : ℕ) (branches : List Branch) : Type 0 where
  pub sender_known : sender < length sh.roles
  pub receiver_known : receiver < length sh.roles
  pub apart : receiver ≢ sender
  pub count : Between 1 8 (length branches)
  pub good : AllByRecursion (GoodBranch sh) branches
  pub rising : Rising branches

abbrev pub GoodState : Sheet → State → Type 0
GoodState sh ended = Unit {0}
GoodState sh (exchange sender receiver branches) = GoodExchange sh sender receiver branches

pub record Valid (sh : Sheet) : Type 0 where
  pub role_count : Between 2 6 (length sh.roles)
  pub label_count : Between 1 32 (length sh.labels)
  pub state_count : Between 1 64 (length sh.states)
  pub row_count : sh.rows ≤ 64
  pub role_names : AllByRecursion GoodName sh.roles
  pub label_names : AllByRecursion GoodName sh.labels
  pub roles_distinct : Distinct sh.roles
  pub labels_distinct : Distinct sh.labels
  pub good_states : AllByRecursion (GoodState sh) sh.states
