-- Bytes have no fault exactly where they are whole: header, pairs, names and states, each as the checks want it.
use Rattle.std.proofs.Common.{◌≡◌, ℕ, ◌≤◌, List, [], ◌∷◌, map, length, take, drop, sym, ap, ◌∙◌, subst, arith}
use Rattle.std.specs.List.{AllByRecursion}
use Rattle.std.proofs.lemmas.List.{take-map, drop-map}
use Rattle.std.proofs.lemmas.Bool.Decides.{Decides-eqb}
use Rattle.sheet.specs.declared.counts.Counts.{Counts}
use Rattle.sheet.specs.declared.fault.ReadFault.TheVariants.{Short, Edition, Count}
use Rattle.sheet.specs.Model.{Name}
use Rattle.sheet.specs.Valid.{Between}
use Rattle.sheet.specs.Encode.{pieces, begin}
use Rattle.sheet.specs.declared.span.Span.{Span}
use Rattle.sheet.specs.Decode.{byte, counts, name_count_of, piece_count_in, table, role_spans, label_spans, state_spans, model}
use Rattle.sheet.specs.Refuse.{count_fault, header_fault, fault}
use Rattle.sheet.proofs.Checks.{Clear, clear_unless, clear_first, clear_like, decides_leb, decides_within, BodySize}
use Rattle.sheet.proofs.Spans.{Tiled, laid_from_tiled, sizes_laid}
use Rattle.sheet.proofs.Sizes.{Sized, sizes_from_sized, clear_pairs}
use Rattle.sheet.proofs.NameRules.{Printable, New, clear_names}
use Rattle.sheet.proofs.StateRules.{Rules, clear_states}
use Rattle.sheet.proofs.Pieces.{cuts, model_parted, pieces_parted, counted_model}

abbrev pub GoodCounts : Counts → Type 0
GoodCounts c = Between 2 6 c.roles × (Between 1 32 c.labels × (Between 1 64 c.states × (c.rows ≤ 64)))

pub clear_counts : (c : Counts) → Clear (count_fault c) (GoodCounts c)
unfolding count_fault
clear_counts c =
    clear_first _ _ (clear_unless _ (Count 1) (decides_within 2 6 c.roles))
    (clear_first _ _ (clear_unless _ (Count 2) (decides_within 1 32 c.labels))
    (clear_first _ _ (clear_unless _ (Count 3) (decides_within 1 64 c.states))
    (clear_unless _ (Count 4) (decides_leb c.rows 64))))

pub clear_header : (bytes : List ℕ) → Clear (header_fault bytes) ((5 ≤ length bytes) × ((byte bytes 0 ≡ 1) × (GoodCounts (counts bytes) × (begin (piece_count_in (counts bytes)) ≤ length bytes))))
unfolding header_fault
clear_header bytes =
    clear_first _ _ (clear_unless _ (Short (length bytes)) (decides_leb 5 (length bytes)))
    (clear_first _ _ (clear_unless _ Edition (Decides-eqb (byte bytes 0) 1))
    (clear_first _ _ (clear_counts (counts bytes))
    (clear_unless _ (Short (length bytes)) (decides_leb (begin (piece_count_in (counts bytes))) (length bytes)))))

abbrev pub GoodNames : List Name → Type 0
GoodNames names = AllByRecursion Printable names × New [] names

pub record Whole (bytes : List ℕ) : Type 0 where
  pub long : 5 ≤ length bytes
  pub edition : byte bytes 0 ≡ 1
  pub good_counts : GoodCounts (counts bytes)
  pub room : begin (piece_count_in (counts bytes)) ≤ length bytes
  pub tiled : Tiled (length bytes) (begin (piece_count_in (counts bytes))) (table bytes)
  pub sized : Sized (name_count_of (counts bytes)) 0 (map (λ s. s.size) (table bytes))
  pub roles : GoodNames (model bytes).roles
  pub labels : GoodNames (model bytes).labels
  pub states : AllByRecursion (Rules (model bytes)) (model bytes).states

pub clear_fault : (bytes : List ℕ) → Clear (fault bytes) (Whole bytes)
unfolding fault model
clear_fault bytes =
    clear_like _
    (λ h. record { long = h.0.0; edition = h.0.1.0; good_counts = h.0.1.1.0; room = h.0.1.1.1; tiled = h.1.0.0; sized = h.1.0.1; roles = h.1.1.0; labels = h.1.1.1.0; states = h.1.1.1.1 })
    (λ w. ((w.long, (w.edition, (w.good_counts, w.room))), ((w.tiled, w.sized), (w.roles, (w.labels, w.states)))))
    (clear_first _ _ (clear_header bytes)
    (clear_first _ _ (clear_pairs (length bytes) (name_count_of (counts bytes)) 0 (begin (piece_count_in (counts bytes))) (table bytes))
    (clear_first _ _ (clear_names bytes 0 [] (role_spans bytes))
    (clear_first _ _ (clear_names bytes (counts bytes).roles [] (label_spans bytes))
    (clear_states (model bytes) (counts bytes) (counted_model bytes) bytes (state_spans bytes))))))

all_unmap : {X Y : Type 0} (P : Y → Type 0) (f : X → Y) (xs : List X) → AllByRecursion P (map f xs) → AllByRecursion (λ x. P (f x)) xs
all_unmap P f [] h = tt
all_unmap P f (x ∷ xs) h = (h.0, all_unmap P f xs h.1)

module _ (bytes : List ℕ) (whole : Whole bytes) where
  sizes : AllByRecursion (Between 1 12) (take (name_count_of (counts bytes)) (map length (cuts bytes))) × AllByRecursion BodySize (drop (name_count_of (counts bytes)) (map length (cuts bytes)))
  sizes =
      let at : ℕ = begin (piece_count_in (counts bytes)) in
      let e : map (λ s. s.size) (table bytes) ≡ map length (cuts bytes) = ap (map (λ (s : Span). s.size)) (sym (laid_from_tiled bytes at (table bytes) whole.tiled)) ∙ sizes_laid at (cuts bytes) in
      sizes_from_sized (name_count_of (counts bytes)) 0 (name_count_of (counts bytes)) (map length (cuts bytes)) (omega arith) (subst (Sized (name_count_of (counts bytes)) 0) e whole.sized)

  pub name_lengths : AllByRecursion (λ p. Between 1 12 (length p)) (take (name_count_of (counts bytes)) (cuts bytes))
  name_lengths = all_unmap (Between 1 12) length (take (name_count_of (counts bytes)) (cuts bytes)) (rw (← take-map length (name_count_of (counts bytes)) (cuts bytes)) sizes.0)

  pub state_lengths : AllByRecursion (λ p. BodySize (length p)) (drop (name_count_of (counts bytes)) (cuts bytes))
  state_lengths = all_unmap BodySize length (drop (name_count_of (counts bytes)) (cuts bytes)) (rw (← drop-map length (name_count_of (counts bytes)) (cuts bytes)) sizes.1)

  pub pieces_model : pieces (model bytes) ≡ cuts bytes
  pieces_model = ap pieces (model_parted bytes) ∙ pieces_parted (counts bytes) (cuts bytes) state_lengths
