-- The lines of the entries, one by one.
use Rattle.std.proofs.Common.{◌≡◌, ℕ, ◌+◌, ◌<◌, ◌≤◌, List, ◌++◌, length, get_or, drop, sym, ap, ◌∙◌, append_assoc, append-nil}
use Rattle.std.proofs.lemmas.List.{at_drop_more, at_drop_all}
use Rattle.events.specs.declared.call.Entry.{Entry}
use Rattle.console.specs.Transcript.{answer_line, entry_lines}

module _ (log : List Entry) where
  pub lines_more : (d : Entry) (x y z : List ℕ) (i : ℕ) → i < length log → z ≡ y ++ answer_line (i + 1) (get_or log i d).answer → y ++ entry_lines (i + 1) (drop i log) ≡ x ++ entry_lines 1 log
      → z ++ entry_lines (i + 1 + 1) (drop (i + 1) log) ≡ x ++ entry_lines 1 log
  lines_more d x y z i h after inv =
      ap (λ t. t ++ entry_lines (i + 1 + 1) (drop (i + 1) log)) after
      ∙ append_assoc y (answer_line (i + 1) (get_or log i d).answer) (entry_lines (i + 1 + 1) (drop (i + 1) log))
      ∙ ap (λ w. y ++ w) (sym (at_drop_more (entry_lines (i + 1)) log i d h))
      ∙ inv

  pub lines_all : (x y : List ℕ) (i : ℕ) → length log ≤ i → y ++ entry_lines (i + 1) (drop i log) ≡ x ++ entry_lines 1 log → y ≡ x ++ entry_lines 1 log
  lines_all x y i h inv = sym (append-nil y) ∙ ap (λ w. y ++ w) (sym (at_drop_all (entry_lines (i + 1)) log i h)) ∙ inv
