-- Decoding a sheet into its transitions.
use Rattle.std.proofs.Common.{◌≡◌, ℕ, suc, ◌+◌, ◌*◌, ◌<◌, ◌≤◌, false, List, [], ◌∷◌, ◌++◌, map, length, get_or, drop, is_some, Some, None, Option, sym, refl, ap, ◌∙◌, ⊎_elim, arith, length-append}
use Rattle.std.specs.Option.{option_map}
use Rattle.std.proofs.ByRecursion.{All-get_or}
use Rattle.std.proofs.lemmas.List.{append_assoc, append-nil, at_drop_more, at_drop_all, length-map, map_push, get_or_past}
use Rattle.std.proofs.lemmas.Bool.{cases_lt, cond-true, cond-false, lt-ltb, le-ltb}
use Rattle.sheet.specs.declared.branch.Branch.{Branch}
use Rattle.sheet.specs.Encode.{body}
use Rattle.sheet.specs.Model.{State, ended, exchange, Sheet}
use Rattle.sheet.specs.Refuse.{fault}
use Rattle.sheet.specs.Valid.{Valid, GoodState}
use Rattle.sheet.proofs.Sound.{valid_model}
use Rattle.sheet.proofs.Whole.{clear_fault}
use Rattle.reading.specs.declared.read_sheet.ReadSheet.{ReadSheet}
use Rattle.reading.specs.Reads.{bytes_of, sheet_of}
use Rattle.reading.specs.declared.piece.Kind.TheVariants as kind
use Rattle.reading.specs.declared.piece.Piece.{Piece}
use Rattle.reading.specs.declared.piece.Piece.TheVariants as piece
use Rattle.reading.specs.Handing.{seen, handed, Part}
use Rattle.protocol.specs.Places.{Place}
use Rattle.parting.specs.declared.transition.Transition.{Transition}
use Rattle.parting.specs.Graph.{body_in}
use Rattle.parting.specs.View.{make_place, place_of, places_of, places_from}

-- the state's bytes are what the sheet hands out
got : (r : Option Piece) (p : Part) → option_map seen r ≡ Some p → p.kind ≡ kind.State → body_in r ≡ p.bytes
got None p e k = absurd cc
got (Some (piece.Role name offset)) p e k = absurd cc
got (Some (piece.Label name offset)) p e k = absurd cc
got (Some (piece.State bytes offset)) p e k = cc

got_none : (r : Option Piece) → option_map seen r ≡ None → body_in r ≡ []
got_none None e = refl
got_none (Some x) e = absurd cc

pub body_handed : (sh : Sheet) (r : Option Piece) (n : ℕ) → option_map seen r ≡ handed sh kind.State n → body_in r ≡ body (get_or sh.states n ended)
body_handed sh r n e = ⊎_elim
    (λ h. got r _ (e ∙ cond-true _ _ _ (lt-ltb n (length sh.states) h)) refl)
    (λ h. got_none r (e ∙ cond-false _ _ _ (le-ltb n (length sh.states) h)) ∙ sym (ap body (get_or_past sh.states n ended h)))
    (cases_lt n (length sh.states))

-- a state's branches, one after the other
pub record Decoding (place : Branch → Place) (before : List Place) (all left : List Branch) (done : List Transition) : Type 0 where
  pub written : map place_of done ++ map place left ≡ before ++ map place all

-- there is room for each branch that is left
pub decoding_room : (place : Branch → Place) (before : List Place) (all left rest : List Branch) (b : Branch) (done : List Transition)
    → left ≡ b ∷ rest → Decoding place before all left done → length before + length (map place all) ≤ 512 → length done < 512
decoding_room place before all left rest b done e d h =
    let w : map place_of done ++ map place (b ∷ rest) ≡ before ++ map place all = rw e at d.written in
    omega (arith, ap length w, length-append (map place_of done) (map place (b ∷ rest)), length-append before (map place all), length-map done place_of)

pub decoding_more : (s A B : ℕ) (before : List Place) (all left rest : List Branch) (b : Branch) (done after : List Transition)
    → left ≡ b ∷ rest → after ≡ done ++ record { state = s; sender = A; receiver = B; branch = b } ∷ [] → Decoding (make_place s A B) before all left done
    → Decoding (make_place s A B) before all rest after
decoding_more s A B before all left rest b done after e pushed d =
    let t : Transition = record { state = s; sender = A; receiver = B; branch = b } in
    let w : map place_of done ++ map (make_place s A B) (b ∷ rest) ≡ before ++ map (make_place s A B) all = rw e at d.written in
    record {
      written =
          ap (λ l. map place_of l ++ map (make_place s A B) rest) pushed
          ∙ ap (λ l. l ++ map (make_place s A B) rest) (map_push place_of done t)
          ∙ append_assoc (map place_of done) (place_of t ∷ []) (map (make_place s A B) rest)
          ∙ w;
    }

pub decoding_all : (place : Branch → Place) (before : List Place) (all left : List Branch) (done : List Transition)
    → left ≡ [] → Decoding place before all left done → map place_of done ≡ before ++ map place all
decoding_all place before all left done e d =
    let w : map place_of done ++ [] ≡ before ++ map place all = rw e at d.written in
    sym (append-nil (map place_of done)) ∙ w

-- the states, one after the other
few_branches : (sh : Sheet) (s : ℕ) (x : State) → GoodState sh x → length (places_of s x) ≤ 8
few_branches sh s ended g = omega arith
few_branches sh s (exchange A B bs) g = omega (arith, length-map bs (make_place s A B), g.count.1)

pub few_places : (sh : Sheet) → Valid sh → (s n : ℕ) → n < length sh.states → length (places_of s (get_or sh.states n ended)) ≤ 8
few_places sh v s n h = few_branches sh s (get_or sh.states n ended) (All-get_or (GoodState sh) sh.states n ended h v.good_states)

pub places_more : (xs : List State) (s : ℕ) → s < length xs → places_from s (drop s xs) ≡ places_of s (get_or xs s ended) ++ places_from (s + 1) (drop (s + 1) xs)
places_more xs s h =
    let e : suc s ≡ s + 1 = omega arith in
    at_drop_more (places_from s) xs s ended h ∙ ap (λ k. places_of s (get_or xs s ended) ++ places_from k (drop (s + 1) xs)) e

pub record Decoded (xs : List State) (done : List Transition) (s : ℕ) : Type 0 where
  pub written : map place_of done ++ places_from s (drop s xs) ≡ places_from 0 xs
  pub bound : length done ≤ 8 * s

pub decoded_none : (xs : List State) (done : List Transition) → done ≡ [] → Decoded xs done 0
decoded_none xs done e = record { written = ap (λ l. map place_of l ++ places_from 0 xs) e; bound = omega (arith, ap length e) }

pub decoded_more : (xs : List State) (done after : List Transition) (s : ℕ) → s < length xs → length (places_of s (get_or xs s ended)) ≤ 8
    → map place_of after ≡ map place_of done ++ places_of s (get_or xs s ended)
    → Decoded xs done s → Decoded xs after (s + 1)
decoded_more xs done after s h few w d = record {
  written =
      ap (λ l. l ++ places_from (s + 1) (drop (s + 1) xs)) w
      ∙ append_assoc (map place_of done) (places_of s (get_or xs s ended)) (places_from (s + 1) (drop (s + 1) xs))
      ∙ ap (λ l. map place_of done ++ l) (sym (places_more xs s h))
      ∙ d.written;
  bound = omega (arith, d.bound, ap length w, length-map after place_of, length-map done place_of, length-append (map place_of done) (places_of s (get_or xs s ended)));
}

pub decoded_all : (xs : List State) (done : List Transition) (s : ℕ) → length xs ≤ s → Decoded xs done s → map place_of done ≡ places_from 0 xs
decoded_all xs done s h d =
    sym (append-nil (map place_of done)) ∙ ap (λ l. map place_of done ++ l) (sym (at_drop_all (places_from s) xs s h)) ∙ d.written

-- a sheet that has been read is valid
none_from_test : {X : Type 0} (o : Option X) → is_some o ≡ false → o ≡ None
none_from_test None e = refl
none_from_test (Some x) e = absurd cc

pub sheet_valid : (s : ReadSheet) → Valid (sheet_of s)
sheet_valid s = valid_model (bytes_of s) ((clear_fault (bytes_of s)).0 (none_from_test (fault (bytes_of s)) s.sound))
