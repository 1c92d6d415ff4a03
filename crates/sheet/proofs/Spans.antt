-- Pairs and pieces: a table of pairs and its bytes, each from the other; pieces laid one after the other.
use Rattle.std.proofs.Common.{◌≡◌, ℕ, zero, suc, ◌+◌, ◌*◌, ◌<◌, ◌≤◌, List, [], ◌∷◌, ◌++◌, map, length, get_or, take, drop, sym, refl, ap, ◌∙◌, arith}
use Rattle.std.specs.List.{flat_map}
use Rattle.std.proofs.lemmas.List.{length-append, length-drop, length-take-le, take-append-drop, drop-drop, drop_all, take_at, drop_at, get_or-drop}
use Rattle.std.proofs.lemmas.Nat.{div-add-mod', div-mul-add, mod-mul-add}
use Rattle.sheet.specs.Encode.{wide, pairs}
use Rattle.sheet.specs.declared.span.Span.{Span}
use Rattle.sheet.specs.Decode.{counts, piece_count_in, number, span, spans, table, cut}
use Rattle.sheet.specs.Law.{Bytes}

-- the bytes of pairs
abbrev pub written : List Span → List ℕ
written [] = []
written (s ∷ ss) = wide s.offset ++ (wide s.size ++ written ss)

pub spans_written : (ss : List Span) (rest : List ℕ) → spans (length ss) (written ss ++ rest) ≡ ss
spans_written [] rest = refl
spans_written (s ∷ ss) rest = rw (div-add-mod' s.offset 256, div-add-mod' s.size 256, spans_written ss rest)

pub written_spans : (n : ℕ) (bytes : List ℕ) → Bytes bytes → 4 * n ≤ length bytes → written (spans n bytes) ≡ take (4 * n) bytes
written_spans zero bytes ok h = refl
written_spans (suc n) [] ok h = absurd (omega arith)
written_spans (suc n) (a ∷ []) ok h = absurd (omega arith)
written_spans (suc n) (a ∷ b ∷ []) ok h = absurd (omega arith)
written_spans (suc n) (a ∷ b ∷ c ∷ []) ok h = absurd (omega arith)
written_spans (suc n) (a ∷ b ∷ c ∷ d ∷ rest) ok h =
    let more : 4 * suc n ≡ suc (suc (suc (suc (4 * n)))) = omega arith in
    let low : b < 256 = ok.1.0 in
    let low' : d < 256 = ok.1.1.1.0 in
    rw (more, div-mul-add a 256 b low, mod-mul-add a 256 b low, div-mul-add c 256 d low', mod-mul-add c 256 d low', written_spans n rest ok.1.1.1.1 (omega arith))

pub length-spans : (n : ℕ) (bytes : List ℕ) → length (spans n bytes) ≡ n
length-spans zero bytes = refl
length-spans (suc n) bytes = ap suc (length-spans n (drop 4 bytes))

pub get_d_spans : (n : ℕ) (bytes : List ℕ) (i : ℕ) (d : Span) → i < n → get_or (spans n bytes) i d ≡ span (drop (4 * i) bytes)
get_d_spans zero bytes i d h = absurd (omega arith)
get_d_spans (suc n) bytes zero d h = refl
get_d_spans (suc n) bytes (suc i) d h =
    let more : 4 + 4 * i ≡ 4 * suc i = omega arith in
    get_d_spans n (drop 4 bytes) i d (omega arith) ∙ ap span (drop-drop (4 * i) 4 bytes ∙ ap (λ (k : ℕ). drop k bytes) more)

pub span_drop : (bytes : List ℕ) (k : ℕ) → span (drop k bytes) ≡ record { offset = number bytes k; size = number bytes (2 + k) }
span_drop bytes k =
    let e₀ : k + 0 ≡ k = omega arith in
    let e₂ : k + 2 ≡ 2 + k = omega arith in
    let e₃ : k + 3 ≡ 2 + k + 1 = omega arith in
    rw (get_or-drop k bytes 0 0, get_or-drop k bytes 1 0, get_or-drop k bytes 2 0, get_or-drop k bytes 3 0, e₀, e₂, e₃)

pub length-table : (bytes : List ℕ) → length (table bytes) ≡ piece_count_in (counts bytes)
unfolding table
length-table bytes = length-spans (piece_count_in (counts bytes)) (drop 5 bytes)

pub table_at : (bytes : List ℕ) (i : ℕ) → i < piece_count_in (counts bytes) → (d : Span) → get_or (table bytes) i d ≡ record { offset = number bytes (5 + 4 * i); size = number bytes (7 + 4 * i) }
unfolding table
table_at bytes i h d =
    let e : 2 + (5 + 4 * i) ≡ 7 + 4 * i = omega arith in
    get_d_spans (piece_count_in (counts bytes)) (drop 5 bytes) i d h ∙ ap span (drop-drop (4 * i) 5 bytes) ∙ span_drop bytes (5 + 4 * i) ∙ ap (λ (k : ℕ). record { offset = number bytes (5 + 4 * i); size = number bytes k }) e

-- where pieces lie that follow one another from `at` on
abbrev pub laid : ℕ → List (List ℕ) → List Span
laid at [] = []
laid at (p ∷ ps) = record { offset = at; size = length p } ∷ laid (at + length p) ps

pub length-laid : (at : ℕ) (ps : List (List ℕ)) → length (laid at ps) ≡ length ps
length-laid at [] = refl
length-laid at (p ∷ ps) = ap suc (length-laid (at + length p) ps)

pub sizes_laid : (at : ℕ) (ps : List (List ℕ)) → map (λ s. s.size) (laid at ps) ≡ map length ps
sizes_laid at [] = refl
sizes_laid at (p ∷ ps) = ap (λ (ns : List ℕ). length p ∷ ns) (sizes_laid (at + length p) ps)

pub pairs_written : (at : ℕ) (ps : List (List ℕ)) → pairs at ps ≡ written (laid at ps)
pairs_written at [] = refl
pairs_written at (p ∷ ps) = ap (λ (rest : List ℕ). wide at ++ (wide (length p) ++ rest)) (pairs_written (at + length p) ps)

pub length_pairs : (at : ℕ) (ps : List (List ℕ)) → length (pairs at ps) ≡ 4 * length ps
length_pairs at [] = refl
length_pairs at (p ∷ ps) = omega (arith, length_pairs (at + length p) ps)

-- pieces that follow one another are cut out again
pub cut_laid : (bytes : List ℕ) (at : ℕ) (ps : List (List ℕ)) → drop at bytes ≡ flat_map (λ p. p) ps → map (cut bytes) (laid at ps) ≡ ps
cut_laid bytes at [] e = refl
cut_laid bytes at (p ∷ ps) e =
    let here : take (length p) (drop at bytes) ≡ p = ap (take (length p)) e ∙ take_at p (flat_map (λ q. q) ps) (length p) refl in
    let rest : drop (at + length p) bytes ≡ flat_map (λ q. q) ps = sym (drop-drop (length p) at bytes) ∙ ap (drop (length p)) e ∙ drop_at p (flat_map (λ q. q) ps) (length p) refl in
    rw (here, cut_laid bytes (at + length p) ps rest)

-- spans that follow one another from `at` to `limit`
abbrev pub Tiled : ℕ → ℕ → List Span → Type 0
Tiled limit at [] = at ≡ limit
Tiled limit at (s ∷ ss) = (s.offset ≡ at) × ((at + s.size ≤ limit) × Tiled limit (at + s.size) ss)

pub tiled_from_laid : (limit at : ℕ) (ps : List (List ℕ)) → at + length (flat_map (λ p. p) ps) ≡ limit → Tiled limit at (laid at ps)
tiled_from_laid limit at [] e = omega arith
tiled_from_laid limit at (p ∷ ps) e =
    let all : at + (length p + length (flat_map (λ q. q) ps)) ≡ limit = rw length-append at e in
    (refl, (omega arith, tiled_from_laid limit (at + length p) ps (omega arith)))

pub length_cut : (bytes : List ℕ) (s : Span) → s.offset + s.size ≤ length bytes → length (cut bytes s) ≡ s.size
length_cut bytes s h = length-take-le s.size (drop s.offset bytes) (rw length-drop (omega arith))

pub laid_from_tiled : (bytes : List ℕ) (at : ℕ) (ss : List Span) → Tiled (length bytes) at ss → laid at (map (cut bytes) ss) ≡ ss
laid_from_tiled bytes at [] t = refl
laid_from_tiled bytes at (s ∷ ss) t =
    let begins : s.offset ≡ at = t.0 in
    let ends : at + s.size ≤ length bytes = t.1.0 in
    let whole : length (cut bytes s) ≡ s.size = length_cut bytes s (omega arith) in
    rw (whole, laid_from_tiled bytes (at + s.size) ss t.1.1, ← begins)

pub joined_from_tiled : (bytes : List ℕ) (at : ℕ) (ss : List Span) → Tiled (length bytes) at ss → flat_map (λ p. p) (map (cut bytes) ss) ≡ drop at bytes
joined_from_tiled bytes at [] t = sym (drop_all at bytes (omega arith))
joined_from_tiled bytes at (s ∷ ss) t =
    rw (joined_from_tiled bytes (at + s.size) ss t.1.1, t.0, ← drop-drop s.size at bytes)
    (take-append-drop s.size (drop at bytes))

-- each piece begins where those before it end, and ends within the sheet
pub tiled_at : (bytes : List ℕ) (at : ℕ) (ss : List Span) → Tiled (length bytes) at ss → (i : ℕ) → i < length ss → (d : Span) → ((get_or ss i d).offset ≡ at + length (flat_map (λ p. p) (take i (map (cut bytes) ss)))) × ((get_or ss i d).offset + (get_or ss i d).size ≤ length bytes)
tiled_at bytes at [] t i h d = absurd (omega arith)
tiled_at bytes at (s ∷ ss) t zero h d =
    let begins : s.offset ≡ at = t.0 in
    let ends : at + s.size ≤ length bytes = t.1.0 in
    (omega arith, omega arith)
tiled_at bytes at (s ∷ ss) t (suc i) h d =
    let begins : s.offset ≡ at = t.0 in
    let ends : at + s.size ≤ length bytes = t.1.0 in
    let whole : length (cut bytes s) ≡ s.size = length_cut bytes s (omega arith) in
    let rest = tiled_at bytes (at + s.size) ss t.1.1 i (omega arith) d in
    let sum : length (cut bytes s ++ flat_map (λ p. p) (take i (map (cut bytes) ss))) ≡ length (cut bytes s) + length (flat_map (λ p. p) (take i (map (cut bytes) ss))) = length-append (cut bytes s) (flat_map (λ p. p) (take i (map (cut bytes) ss))) in
    (omega (arith, rest.0), rest.1)
