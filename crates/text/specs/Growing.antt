-- Meaning: the bytes of a text, and what it means to add to it.
use Rattle.std.specs.Prelude.{◌≡◌, ℕ, List, ◌++◌, vec_items, Result, OnOk}
use Rattle.std.specs.declared.alloc.AllocError.{AllocError}
use Rattle.text.specs.declared.growing.Text.{Text}

abbrev pub said : Text → List ℕ
said text = vec_items text.bytes

-- unless memory fails, the bytes stand at the end
abbrev pub Adds : Text → Text → Result (Unit {0}) AllocError → List ℕ → Type 0
Adds before after r bytes = OnOk r (said after ≡ said before ++ bytes)
