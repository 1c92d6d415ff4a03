-- Numbers in bytes, and back.
use Rattle.std.proofs.Common.{◌≡◌, ℕ, ◌+◌, ◌*◌, ◌/◌, ◌%◌, ◌^◌, ◌<◌, ◌≤◌, List, [], ◌∷◌, ◌++◌, length, get_or, take, drop, Some, None, Option, sym, refl, ap, ◌∙◌, arith}
use denote.Ref.{Bor}
use Rattle.std.specs.Prelude.{MatchOption, ◌≢◌}
use Rattle.std.specs.List.{IsSplitAt, AllByRecursion}
use Rattle.std.proofs.lemmas.Nat.{div-add-mod'}
use Rattle.std.proofs.lemmas.List.{length-append, take_at, drop_at, take-append-drop}
use Rattle.book_rows.specs.Bytes.{number_of}
use Rattle.input.specs.Bytes.{four, sized}
use Rattle.input.specs.Events.{tick_of}

pub four_back : (n : ℕ) → tick_of (n / 65536 / 256) (n / 65536 % 256) (n % 65536 / 256) (n % 65536 % 256) ≡ n
four_back n = omega arith

-- four bytes are the number's
pub four_is : (a b c d n : ℕ) → a < 256 → b < 256 → c < 256 → d < 256 → n ≡ tick_of a b c d → four n ≡ a ∷ b ∷ c ∷ d ∷ []
four_is a b c d n p q r s e =
    let ha : n / 65536 / 256 ≡ a = omega arith in
    let hb : n / 65536 % 256 ≡ b = omega arith in
    let hc : n % 65536 / 256 ≡ c = omega arith in
    let hd : n % 65536 % 256 ≡ d = omega arith in
    cc

-- what the bytes of a sized list begin with
pub sized_parts : (bytes x rest : List ℕ) → sized x ++ rest ≡ bytes → (length x ≡ get_or bytes 0 0 * 256 + get_or bytes 1 0) × (x ++ rest ≡ drop 2 bytes)
sized_parts bytes x rest e = (sym (div-add-mod' (length x) 256) ∙ ap (λ (l : List ℕ). get_or l 0 0 * 256 + get_or l 1 0) e, ap (drop 2) e)

pub four_parts : (bytes rest : List ℕ) (n : ℕ) → four n ++ rest ≡ bytes → (n ≡ tick_of (get_or bytes 0 0) (get_or bytes 1 0) (get_or bytes 2 0) (get_or bytes 3 0)) × (rest ≡ drop 4 bytes)
four_parts bytes rest n e = (sym (four_back n) ∙ ap (λ (l : List ℕ). tick_of (get_or l 0 0) (get_or l 1 0) (get_or l 2 0) (get_or l 3 0)) e, ap (drop 4) e)

append_same : (x r y s : List ℕ) → length x ≡ length y → x ++ r ≡ y ++ s → (x ≡ y) × (r ≡ s)
append_same x r y s h e = (
  sym (take_at x r (length x) refl) ∙ ap (take (length x)) e ∙ take_at y s (length x) (sym h),
  sym (drop_at x r (length x) refl) ∙ ap (drop (length x)) e ∙ drop_at y s (length x) (sym h),
)

pub sized_same : (x r y s : List ℕ) → sized x ++ r ≡ sized y ++ s → (x ≡ y) × (r ≡ s)
sized_same x r y s e =
    let p = sized_parts (sized y ++ s) x r e in
    let q = sized_parts (sized y ++ s) y s refl in
    append_same x r y s (p.0 ∙ sym q.0) (p.1 ∙ sym q.1)

pub four_same : (n m : ℕ) (r s : List ℕ) → four n ++ r ≡ four m ++ s → (n ≡ m) × (r ≡ s)
four_same n m r s e =
    let p = four_parts (four m ++ s) r n e in
    let q = four_parts (four m ++ s) s m refl in
    (p.0 ∙ sym q.0, p.1 ∙ sym q.1)

-- the length of a sized list is within the bytes
pub sized_within : (bytes x rest : List ℕ) → sized x ++ rest ≡ bytes → (2 ≤ length bytes) × (length x ≤ length (drop 2 bytes))
sized_within bytes x rest e =
    let p = sized_parts bytes x rest e in
    let l : length (x ++ rest) ≡ length (drop 2 bytes) = ap length p.1 in
    let k : length bytes ≡ 2 + length (x ++ rest) = sym (ap length e) ∙ omega arith in
    (omega arith, omega (arith, length-append x rest))

-- two bytes and what follows
pub sized_is : (bytes front back : List ℕ) (size : ℕ) → 2 ≤ length bytes → ((i : ℕ) → get_or bytes i 0 < 256) → size ≡ get_or bytes 0 0 * 256 + get_or bytes 1 0 → length front ≡ size → front ++ back ≡ drop 2 bytes → sized front ++ back ≡ bytes
sized_is [] front back size h r s l e = absurd (omega arith)
sized_is (a ∷ []) front back size h r s l e = absurd (omega arith)
sized_is (a ∷ b ∷ rest) front back size h r s l e =
    let p : length front / 256 ≡ a = omega (arith, r 0, r 1) in
    let q : length front % 256 ≡ b = omega (arith, r 0, r 1) in
    cc

-- the number that bytes begin with, and what follows it
pub four_first : (bytes rest : List ℕ) (n : ℕ) → 4 ≤ length bytes → AllByRecursion (λ b. b < 256) bytes → n ≡ number_of bytes → rest ≡ drop 4 bytes → (n < 2 ^ 32) × (four n ++ rest ≡ bytes)
unfolding number_of
four_first [] rest n h r e t = absurd (omega arith)
four_first (a ∷ []) rest n h r e t = absurd (omega arith)
four_first (a ∷ b ∷ []) rest n h r e t = absurd (omega arith)
four_first (a ∷ b ∷ c ∷ []) rest n h r e t = absurd (omega arith)
four_first (a ∷ b ∷ c ∷ d ∷ more) rest n h r e t = (
  omega (arith, r.0, r.1.0, r.1.1.0, r.1.1.1.0),
  ap (λ w. w ++ rest) (four_is a b c d n r.0 r.1.0 r.1.1.0 r.1.1.1.0 e) ∙ ap (λ w. a ∷ b ∷ c ∷ d ∷ w) t,
)

-- two bytes and what follows, cut after as many bytes as they say
pub sized_cut : (bytes back : List ℕ) (size : ℕ) (r : Option (Bor (List ℕ) × Bor (List ℕ))) → 2 ≤ length bytes → ((i : ℕ) → get_or bytes i 0 < 256) → size ≡ get_or bytes 0 0 * 256 + get_or bytes 1 0 → back ≡ drop 2 bytes
    → MatchOption r (length back < size) (λ p. IsSplitAt back size p.0.now p.1.now)
    → MatchOption r ((x rest : List ℕ) → length x < 2 ^ 16 → sized x ++ rest ≢ bytes) (λ p. (length p.0.now < 2 ^ 16) × (sized p.0.now ++ p.1.now ≡ bytes))
sized_cut bytes back size None h r is e short = λ x rest fits whole.
    let p = sized_parts bytes x rest whole in
    let q = sized_within bytes x rest whole in
    omega (arith, p.0, q.1, is, ap length e, short)
sized_cut bytes back size (Some (x, y)) h r is e cut =
    let whole : x.now ++ y.now ≡ back = cc (take-append-drop size back) in
    (omega (arith, cut.3, is, r 0, r 1), sized_is bytes x.now y.now size h r is cut.3 (whole ∙ e))
