-- A sheet and a book in which no fault is found.
use Rattle.std.proofs.Common.{◌≡◌, ℕ, List, None, Option, ap, ◌∙◌, subst}
use Rattle.std.specs.Option.{option_map}
use Rattle.books.specs.declared.fault.BookFault.{BookFault}
use Rattle.sheet.specs.Decode.{model}
use Rattle.sheet.specs.Law.{Encodes}
use Rattle.sheet.specs.Refuse.{fault}
use Rattle.reading.specs.Reads.{sheet_of, Reads}
use Rattle.reading.specs.declared.read_sheet.ReadSheet.{ReadSheet}
use Rattle.protocol.specs.Accepted.{Accepted as CanBeParted}
use Rattle.parting.specs.Parts.{part_fault}
use Rattle.parting.specs.Whole.{PartsOf}
use Rattle.parting.specs.declared.accepted.Accepted.{Accepted}
use Rattle.parting.specs.declared.fault.PartFault.{PartFault}
use Rattle.session.specs.Opening.{open_fault}
use Rattle.session.specs.Watches.{IsOf}
use Rattle.events.specs.declared.fault.SessionFault.{SessionFault}
use Rattle.console.specs.declared.fault.ConsoleFault.{ConsoleFault}
use Rattle.console.specs.declared.fault.ConsoleFault.TheVariants.{Reading, Book, Parting, Session}
use Rattle.console.specs.Faults.{before}

pub sheet_accepted : (bytes : List ℕ) (s : ReadSheet) (a : Accepted) → Reads bytes s → CanBeParted (sheet_of s) → PartsOf (sheet_of s) a → Encodes bytes (model bytes) × IsOf (model bytes) a
sheet_accepted bytes s a r parted parts =
    let P : List ℕ → Type 0 = λ b. Encodes bytes (model b) × IsOf (model b) a in
    subst P r.bytes_are (r.encodes, record { valid = r.encodes.valid; parted = parted; parts = parts })

-- the fault of parting comes last
pub parting_last : (sheet bytes : List ℕ) (o : Option BookFault) (q : Option PartFault) → None ≡ fault sheet → bytes ≡ sheet → None ≡ o → q ≡ part_fault (model bytes)
    → option_map Parting q ≡ before (option_map Reading (fault sheet)) (before (option_map Book o) (option_map Parting (part_fault (model sheet))))
parting_last sheet bytes o q read is book part =
    ap (option_map Parting) (part ∙ ap (λ (b : List ℕ). part_fault (model b)) is)
    ∙ ap (λ x. before (option_map Book x) (option_map Parting (part_fault (model sheet)))) book
    ∙ ap (λ x. before (option_map Reading x) (before (option_map Book o) (option_map Parting (part_fault (model sheet))))) read

-- the fault of opening comes after all of these
pub opening_last : (o : Option ConsoleFault) (q : Option SessionFault) (needed needed' rows rows' : ℕ) → None ≡ o → q ≡ open_fault needed rows 8 → needed ≡ needed' → rows ≡ rows'
    → option_map Session q ≡ before o (option_map Session (open_fault needed' rows' 8))
opening_last o q needed needed' rows rows' clean judged n r =
    ap (option_map Session) (judged ∙ ap (λ k. open_fault k rows 8) n ∙ ap (λ k. open_fault needed' k 8) r)
    ∙ ap (λ x. before x (option_map Session (open_fault needed' rows' 8))) clean
