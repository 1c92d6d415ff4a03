-- An input and its parts.
use Rattle.std.proofs.Common.{◌≡◌, ℕ, ◌%◌, ◌^◌, ◌<◌, ◌≤◌, List, [], ◌∷◌, ◌++◌, length, drop, sym, ap, ◌∙◌, subst}
use Rattle.std.specs.List.{flat_map, AllByRecursion}
use Rattle.book_rows.specs.Bytes.{number_of}
use Rattle.events.specs.declared.event.Event.{Event}
use Rattle.input.specs.Bytes.{sized, four, event_bytes}
use Rattle.input.specs.Events.{events_in}
use Rattle.input.specs.Laid.{Laid}
use Rattle.input.proofs.Halves.{sized_same, four_same, four_first}
use Rattle.input.proofs.Decoding.{events_back, events_whole, events_are}

pub bytes_after : (x y : List ℕ) → AllByRecursion (λ b. b < 256) (x ++ y) → AllByRecursion (λ b. b < 256) y
bytes_after [] y h = h
bytes_after (b ∷ x) y h = bytes_after x y h.1

-- the number that comes third, and the bytes after it
pub third_is : (input sheet book after-sheet after-book bytes : List ℕ) (tick : ℕ) → sized sheet ++ after-sheet ≡ input → sized book ++ after-book ≡ after-sheet → AllByRecursion (λ b. b < 256) input
    → (4 ≤ length after-book) × (tick ≡ number_of after-book) × (bytes ≡ drop 4 after-book) → (tick < 2 ^ 32) × (four tick ++ bytes ≡ after-book)
third_is input sheet book after-sheet after-book bytes tick first second ranges is =
    let first_tail = bytes_after (sized sheet) after-sheet (subst (AllByRecursion (λ b. b < 256)) (sym first) ranges) in
    let second-tail = bytes_after (sized book) after-book (subst (AllByRecursion (λ b. b < 256)) (sym second) first_tail) in
    four_first after-book bytes tick is.0 second-tail is.1 is.2

-- what the parts of an input are, where its bytes were taken apart
module _ (input sheet book after-sheet after-book bytes : List ℕ) (tick : ℕ) (first : sized sheet ++ after-sheet ≡ input) (second : sized book ++ after-book ≡ after-sheet) (third : four tick ++ bytes ≡ after-book) where
  pub split_only : (s b : List ℕ) (t : ℕ) (es : List Event) → Laid input s b t es → (s ≡ sheet) × (b ≡ book) × (t ≡ tick) × (flat_map event_bytes es ≡ bytes)
  split_only s b t es laid =
      let p = sized_same s (sized b ++ (four t ++ flat_map event_bytes es)) sheet after-sheet (laid.bytes_are ∙ sym first) in
      let q = sized_same b (four t ++ flat_map event_bytes es) book after-book (p.1 ∙ sym second) in
      let r = four_same t tick (flat_map event_bytes es) bytes (q.1 ∙ sym third) in
      (p.0, q.0, r.0, r.1)

  pub split_events : (s b : List ℕ) (t : ℕ) (es : List Event) → Laid input s b t es → (s ≡ sheet) × (b ≡ book) × (t ≡ tick) × (es ≡ events_in bytes)
  split_events s b t es laid =
      let p = split_only s b t es laid in
      (p.0, p.1, p.2, sym (events_back es) ∙ ap events_in p.3)

  pub split_whole : (s b : List ℕ) (t : ℕ) (es : List Event) → Laid input s b t es → length bytes % 8 ≡ 0
  split_whole s b t es laid = ap (λ (l : List ℕ). length l % 8) (sym (split_only s b t es laid).3) ∙ events_whole es

  pub split_laid : length sheet < 2 ^ 16 → length book < 2 ^ 16 → tick < 2 ^ 32 → AllByRecursion (λ x. x < 256) input → length bytes % 8 ≡ 0 → length input ≤ 65536 → Laid input sheet book tick (events_in bytes)
  split_laid hs hb ht ranges whole most =
      let first_tail = bytes_after (sized sheet) after-sheet (subst (AllByRecursion (λ b. b < 256)) (sym first) ranges) in
      let second-tail = bytes_after (sized book) after-book (subst (AllByRecursion (λ b. b < 256)) (sym second) first_tail) in
      let es = events_are bytes (bytes_after (four tick) bytes (subst (AllByRecursion (λ b. b < 256)) (sym third) second-tail)) whole in
      record {
        bytes_are = ap (λ w. sized sheet ++ (sized book ++ (four tick ++ w))) es.1 ∙ ap (λ w. sized sheet ++ (sized book ++ w)) third ∙ ap (λ w. sized sheet ++ w) second ∙ first;
        sheet_fits = hs;
        book_fits = hb;
        tick_fits = ht;
        events_fit = es.0;
        most = most;
      }
