use Rattle.std.proofs.Common.{◌≡◌, ℕ, ◌<◌, List, Some, None, sym, ap, ◌∙◌, subst, arith}
use Rattle.std.proofs.ByRecursion.{All-from_get_or}
use Rattle.std.proofs.lemmas.Result.{err_from_is_err_and}
use Rattle.sheet.specs.declared.fault.ReadFault.{ReadFault}
use Rattle.sheet.specs.Decode.{model}
use Rattle.sheet.specs.Law.{Bytes, Encodes}
use Rattle.sheet.specs.Model.{Sheet}
use Rattle.sheet.specs.Refuse.{fault}
use Rattle.sheet.proofs.Sound.{sound}
use Rattle.sheet.proofs.Complete.{complete}
use Rattle.sheet.proofs.Pieces.{model_encode}
use Rattle.reading.specs.declared.read_sheet.ReadSheet.{ReadSheet}
use Rattle.reading.specs.Reads.{bytes_of, Reads}
use Rattle.reading.proofs.read.read.Goals as goal

refused : (bytes : List ℕ) (f : ReadFault) → fault bytes ≡ Some f → (sh : Sheet) → Encodes bytes sh → ⊥
refused bytes f e sh encodes =
    let clean : fault bytes ≡ None = complete bytes sh encodes in
    cc

reads : (bytes : List ℕ) (s : ReadSheet) → Bytes bytes → fault bytes ≡ None → bytes_of s ≡ bytes → Reads bytes s
reads bytes s fits clean is = record {
  bytes_are = is;
  encodes = subst (λ b. Encodes bytes (model b)) (sym is) (sound bytes fits clean);
  only = λ sh e. sym (model_encode sh) ∙ ap model (e.bytes_are ∙ sym is);
}

pub returns-in_err-judge : goal.returns-in_err-judge
returns-in_err-judge c =
    let bytes = c.args.bytes.now in
    let e : fault bytes ≡ Some c.in_err-judge.field-0.0 = sym c.in_err-judge.ensures in
    let p = err_from_is_err_and c.from_residual.result c.from_residual.ensures.1 in
    rw (p.1, p.2) (record { judged = sym e; whole = refused bytes _ e })

pub returns-clause-whole : goal.returns-clause-whole
returns-clause-whole c =
    let bytes = c.args.bytes.now in
    let e : fault bytes ≡ None = sym c.in_ok-judge.ensures in
    let fits : Bytes bytes = All-from_get_or (λ b. b < 256) bytes 0 (λ i _. omega (arith, c.type_inv.bytes i)) in
    reads bytes c.keep.result fits e c.keep.ensures
