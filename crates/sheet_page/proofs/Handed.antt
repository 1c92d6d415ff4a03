-- The pieces of a kind, one by one.
use Rattle.std.proofs.Common.{◌≡◌, ℕ, ◌+◌, ◌<◌, ◌≤◌, Bool, true, false, cond, ltb, [], ◌∷◌, map, length, get_or, drop, Some, None, sym, refl, ap, ◌∙◌, ltb-false}
use Rattle.std.proofs.lemmas.List.{drop_more, drop-map, get_or_past, length-map}
use Rattle.sheet.specs.Decode.{state_of}
use Rattle.sheet.proofs.Bodies.{state_of_body}
use Rattle.sheet.specs.Encode.{body}
use Rattle.sheet.specs.Model.{Sheet, ended}
use Rattle.reading.specs.declared.piece.Kind.{Kind}
use Rattle.reading.specs.declared.piece.Kind.TheVariants.{Role, Label, State}
use Rattle.reading.specs.Handing.{Part, counts_of, piece_count_of, piece_of, handed}
use Rattle.sheet_page.specs.Pieces.{pieces_of}

past : (sh : Sheet) (kind : Kind) (n : ℕ) → piece_count_of (counts_of sh) kind ≤ n → [] ≡ piece_of sh kind n
past sh Role n h = sym (get_or_past sh.roles n [] h)
past sh Label n h = sym (get_or_past sh.labels n [] h)
past sh State n h = sym (ap body (get_or_past sh.states n ended h))

not_taken : (b : Bool) (x : Part) → None ≡ cond b (Some x) None → b ≡ false
not_taken true x e = absurd cc
not_taken false x e = refl

-- where none is handed out, there are no bytes
pub none_handed : (sh : Sheet) (kind : Kind) (n : ℕ) → None ≡ handed sh kind n → [] ≡ piece_of sh kind n
none_handed sh kind n e = past sh kind n (ltb-false n (piece_count_of (counts_of sh) kind) (not_taken (ltb n (piece_count_of (counts_of sh) kind)) _ e))

pub length-pieces : (sh : Sheet) (kind : Kind) → length (pieces_of sh kind) ≡ piece_count_of (counts_of sh) kind
length-pieces sh Role = refl
length-pieces sh Label = refl
length-pieces sh State = length-map sh.states body

-- the piece with a number, and those after it
pub next_piece : (sh : Sheet) (kind : Kind) (n : ℕ) → n < piece_count_of (counts_of sh) kind → drop n (pieces_of sh kind) ≡ piece_of sh kind n ∷ drop (n + 1) (pieces_of sh kind)
next_piece sh Role n h = drop_more sh.roles n [] h
next_piece sh Label n h = drop_more sh.labels n [] h
next_piece sh State n h =
    drop-map body n sh.states ∙ ap (map body) (drop_more sh.states n ended h)
    ∙ ap (λ bodies. body (get_or sh.states n ended) ∷ bodies) (sym (drop-map body (n + 1) sh.states))

pub piece_among : (sh : Sheet) (kind : Kind) (n : ℕ) → n < piece_count_of (counts_of sh) kind → get_or (pieces_of sh kind) n [] ≡ piece_of sh kind n
piece_among sh kind n h = ap (λ l. get_or l 0 []) (sym (drop_more (pieces_of sh kind) n [] (rw (length-pieces sh kind) h)) ∙ next_piece sh kind n h)

pub next_state : (sh : Sheet) (n : ℕ) → n < length sh.states → drop n sh.states ≡ state_of (piece_of sh State n) ∷ drop (n + 1) sh.states
next_state sh n h = drop_more sh.states n ended h ∙ ap (λ s. s ∷ drop (n + 1) sh.states) (sym (state_of_body (get_or sh.states n ended)))
