use Rattle.std.proofs.Common.{◌≡◌, ℕ, false, ltb, List, ◌++◌, length, IfOk, Some, None, Ok, Err, vec_items, Option, Result, sym, ap, ◌∙◌, subst, arith, le-ltb, MatchOption}
use Rattle.std.specs.Option.{option_map}
use Rattle.std.proofs.lemmas.Bool.{cond-false}
use Rattle.sheet.specs.Decode.{model}
use Rattle.sheet.specs.Law.{Encodes}
use Rattle.sheet.specs.Model.{Sheet}
use Rattle.sheet.specs.Refuse.{fault}
use Rattle.sheet.proofs.Clean.{length-bound}
use Rattle.sheet.proofs.Complete.{complete}
use Rattle.sheet.proofs.Pieces.{model_encode}
use Rattle.reading.specs.Faults.{fault_of}
use Rattle.reading.specs.Reads.{bytes_of, sheet_of}
use Rattle.parting.specs.declared.accepted.Accepted.{Accepted}
use Rattle.parting.specs.declared.fault.PartFault.{PartFault}
use Rattle.parting.specs.Parts.{part_fault}
use Rattle.parting.specs.Stop.{stopped}
use Rattle.parting.specs.Whole.{PartsOf}
use Rattle.listing.specs.declared.fault.ListFault.{ListFault}
use Rattle.listing.specs.declared.fault.ListFault.TheVariants.{Reading, Parting}
use Rattle.text.specs.StopLine.{line_of_stop}
use Rattle.listing.specs.Listed.{input_fault, stop_for, parted_by, parted_fault, parting_text, Told, Listed}
use Rattle.sheet_page.specs.Page.{page}
use Rattle.part_page.specs.Parts.{part_lines, PartingTold}
use Rattle.text.specs.Growing.{said}
use Rattle.listing.proofs.list.list.Goals as goal
use Rattle.listing.proofs.list.list.Goals.{in-Ok+in_ok-put_sheet-in-Ok, in-Err+in_ok-put_stop-in-Err}

-- the parts are told where parting has no fault, else its stop
by_fault : (sh : Sheet) (text : List ℕ) (o : Option PartFault) (r : Result Accepted ListFault) → fault_of r ≡ option_map Parting o → IfOk r (λ a. PartsOf sh a) → text ≡ page sh ++ parting_text sh r
    → MatchOption o ((a : Accepted) × PartsOf sh a × (text ≡ page sh ++ part_lines sh a)) (λ f. text ≡ page sh ++ line_of_stop (stopped f))
by_fault sh text None (Ok a) j p e = (a, p, e)
by_fault sh text None (Err f) j p e = let z : ◌≡◌ {A = ℕ} 0 1 = cc in absurd (omega arith)
by_fault sh text (Some g) (Ok a) j p e = let z : ◌≡◌ {A = ℕ} 0 1 = cc in absurd (omega arith)
by_fault sh text (Some g) (Err f) j p e = let same : f ≡ Parting g = cc in e ∙ ap (λ k. page sh ++ line_of_stop (stop_for k)) same

listed_sheet : (input bytes text : List ℕ) (r : Result Accepted ListFault) → None ≡ input_fault input → bytes ≡ input → fault_of r ≡ parted_fault input → IfOk r (λ a. PartsOf (model input) a)
    → text ≡ page (model bytes) ++ parting_text (model bytes) r → Listed input text
unfolding Listed parted_fault
listed_sheet input bytes text r clean is judged parts e =
    let parting : fault_of r ≡ option_map Parting (part_fault (model input)) = judged ∙ sym (ap (λ f. parted_by f (model input)) clean) in
    let whole : text ≡ page (model input) ++ parting_text (model input) r = e ∙ ap (λ (b : List ℕ). page (model b) ++ parting_text (model b) r) is in
    subst (λ (f : Option ListFault). Told f (model input) text) clean (by_fault (model input) text (part_fault (model input)) r parting parts whole)

listed_stop : (input text : List ℕ) (f : ListFault) → Some f ≡ input_fault input → text ≡ line_of_stop (stop_for f) → Listed input text
unfolding Listed
listed_stop input text f e h = subst (λ (o : Option ListFault). Told o (model input) text) e h

-- of a valid sheet's bytes, that very sheet is told
listed_encoded : (input text : List ℕ) (sh : Sheet) → Encodes input sh → Listed input text → PartingTold sh text
unfolding Listed input_fault
listed_encoded input text sh e h =
    let clean : fault input ≡ None = complete input sh e in
    let fits : ltb 65535 (length input) ≡ false = le-ltb _ _ (omega (arith, length-bound input clean)) in
    let none : input_fault input ≡ None = cond-false _ _ _ fits ∙ ap (option_map Reading) clean in
    let is : model input ≡ sh = sym (ap model e.bytes_are) ∙ model_encode sh in
    subst (λ (s : Sheet). PartingTold s text) is (subst (λ (f : Option ListFault). Told f (model input) text) none h)

pub returns : goal.returns
returns c =
    let input = c.args.input.now in
    let text = vec_items c.into_bytes.result in
    let value : Listed input text = elim c.match-examine.branch [
      | in-Ok+in_ok-put_sheet-in-Ok w ↦
          let s = w.in-Ok.sheet in
          let r = w.parted.result in
          listed_sheet input (bytes_of s) text r w.in-Ok.ensures.judged w.in-Ok.ensures.value w.parted.ensures.judged w.parted.ensures.value
          (c.into_bytes.ensures ∙ ap said w.text-is ∙ w.in_ok-put_sheet-in-Ok.ensures
          ∙ ap (λ t. t ++ (page (sheet_of s) ++ parting_text (sheet_of s) r)) c.new-text.ensures)
      | in-Err+in_ok-put_stop-in-Err w ↦
          listed_stop input text w.in-Err.fault w.in-Err.ensures.judged
          (c.into_bytes.ensures ∙ ap said w.text-is ∙ w.in_ok-put_stop-in-Err.ensures
          ∙ ap (λ t. t ++ line_of_stop w.from.result) c.new-text.ensures ∙ ap line_of_stop w.from.ensures)
    ] in
    record { value = value; told = λ sh e. listed_encoded input text sh e value }
