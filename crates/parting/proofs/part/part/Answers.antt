use Rattle.std.proofs.Common.{◌∙◌, ap, arith, get_or, sym}
use Rattle.sheet.specs.declared.counts.Counts.{Counts}
use Rattle.reading.specs.Reads.{sheet_of}
use Rattle.parting.specs.Blank.{no_part}
use Rattle.parting.proofs.Decoding.{sheet_valid}
use Rattle.parting.proofs.Roles.{tabled_part, tabled_local}
use Rattle.parting.proofs.part.part.Goals as goal

pub invariant_of-result-clause-few : goal.invariant_of-result-clause-few
invariant_of-result-clause-few c =
    omega (arith, ap (λ (k : Counts). k.roles) c.counts.ensures.value, (sheet_valid c.args.sheet).role_count.1)

pub invariant_of-result-clause-each : goal.invariant_of-result-clause-each
invariant_of-result-clause-each c =
    c.in-Ok.ensures.parts.count ∙ sym (ap (λ (k : Counts). k.roles) c.counts.ensures.value)

pub returns-in-Ok : goal.returns-in-Ok
returns-in-Ok c =
    let s = c.args.sheet in
    let sh = sheet_of s in
    let parts = c.put_parts.new.parts.items in
    let all = c.in-Ok.ensures.parts in
    record {
      judged = c.in-Ok.ensures.fault;
      whole = (
        λ m h. tabled_part sh (sheet_valid s) m (get_or parts m no_part) (all.each m h no_part),
        record {
          counts = c.counts.ensures.value;
          local = λ m h d. tabled_local sh (sheet_valid s) m (get_or parts m d) (all.each m h d);
          found = all.each;
        },
      );
    }
