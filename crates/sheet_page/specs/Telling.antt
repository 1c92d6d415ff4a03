-- Meaning: what a step adds to a page.
use Rattle.std.specs.Prelude.{◌≡◌, ℕ, List, Result}
use Rattle.std.specs.declared.alloc.AllocError.{AllocError}
use Rattle.reading.specs.Reads.{sheet_of}
use Rattle.sheet.specs.Model.{Sheet}
use Rattle.text.specs.Growing.{Adds}
use Rattle.sheet_page.specs.declared.page.Page.{Page}

-- the sheet that a page tells
abbrev pub told : Page → Sheet
told page = sheet_of page.sheet.now

-- it stands in the same text, and tells the same sheet
pub record Stays (before after : Page) : Type 0 where
  pub lender : after.text.ghost_name ≡ before.text.ghost_name
  pub sheet : after.sheet ≡ before.sheet

-- the page stays, and, unless memory fails, the bytes stand at its end
pub record Tells (before after : Page) (r : Result (Unit {0}) AllocError) (bytes : List ℕ) : Type 0 where
  pub stays : Stays before after
  pub added : Adds before.text.now after.text.now r bytes
