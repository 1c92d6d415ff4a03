use Rattle.std.proofs.Common.{◌≡◌, ◌<◌, ◌+◌, List, length, get_or, sym, ap, ◌∙◌, subst, arith}
use Rattle.std.proofs.lemmas.Result.{err_from_is_err_and}
use Rattle.std.proofs.lemmas.List.{length_push}
use Rattle.reading.specs.Reads.{sheet_of}
use Rattle.parting.specs.declared.local.Part.{Part}
use Rattle.parting.specs.Family.{View, view_of, family_of, stopped}
use Rattle.parting.specs.Parts.{Parted, family}
use Rattle.parting.specs.View.{places}
use Rattle.parting.proofs.Decoding.{sheet_valid}
use Rattle.parting.proofs.Roles.{Tabled, faults_more, faults_stop, faults_start, tabled_more, stopped_refused}
use Rattle.parting.proofs.part.put_parts.Goals as goal

pub loop-role-init : goal.loop-role-init
loop-role-init c = record {
  counted = ap length c.requires;
  unfaulted = faults_start (sheet_of c.args.sheet.now);
  tabled = λ m h. absurd (omega arith);
}

pub push-requires : goal.push-requires
push-requires c =
    (omega arith, omega (arith, ap (λ k. k.roles) c.counts-counts.ensures.value, (sheet_valid c.args.sheet.now).role_count.1, c.loop-role.invariant.counted, c.loop-role-test.true))

pub loop-role-preserved : goal.loop-role-preserved
loop-role-preserved c =
    let sh = sheet_of c.args.sheet.now in
    let l = c.loop-role in
    let r = c.of.result in
    let rest = c.of.ensures.rest in
    let part = c.in_ok-part.part in
    let labels = ap (λ k. k.labels) c.counts-counts.ensures.value in
    let roles = ap (λ k. k.roles) c.counts-counts.ensures.value in
    let view = c.of.ensures.view ∙ ap (view_of l.role) c.decode-transitions.ensures in
    let t : Tabled sh l.role part =
    subst (λ n. Parted (view_of l.role (places sh)) l.role n part) (rest.1 ∙ labels)
    (subst (λ n. Parted (view_of l.role (places sh)) n r.labels part) rest.0 (subst (λ (v : View). Parted v r.number r.labels part) view c.in_ok-part.ensures)) in
    let more = tabled_more sh l.parts.items l.role part l.invariant.counted t l.invariant.tabled in
    record {
      counted = ap length c.push.ensures.items ∙ length_push l.parts.items part ∙ ap (λ n. n + 1) l.invariant.counted;
      unfaulted = sym (faults_more sh l.role (length sh.roles) t.found (omega (arith, roles, c.loop-role-test.true)) t.are) ∙ l.invariant.unfaulted;
      tabled = λ m h d. subst (λ (ps : List Part). Tabled sh m (get_or ps m d)) (sym c.push.ensures.items) (more m h d);
    }

pub returns-in_err-part : goal.returns-in_err-part
returns-in_err-part c =
    let s = c.args.sheet.now in
    let sh = sheet_of s in
    let l = c.loop-role in
    let r = c.of.result in
    let rest = c.of.ensures.rest in
    let f = c.in_err-part.field-0.0 in
    let labels = ap (λ k. k.labels) c.counts-counts.ensures.value in
    let roles = ap (λ k. k.roles) c.counts-counts.ensures.value in
    let view = c.of.ensures.view ∙ ap (view_of l.role) c.decode-transitions.ensures in
    let within : l.role < length sh.roles = omega (arith, roles, c.loop-role-test.true) in
    let e : family sh l.role ≡ stopped f =
    ap (λ n. family_of l.role (view_of l.role (places sh)) n) (sym (rest.1 ∙ labels))
    ∙ ap (λ n. family_of n (view_of l.role (places sh)) r.labels) (sym rest.0)
    ∙ ap (λ (v : View). family_of r.number v r.labels) (sym view)
    ∙ c.in_err-part.ensures in
    let p = err_from_is_err_and c.from_residual.result c.from_residual.ensures.1 in
    rw (p.1, p.2) (record {
      fault = sym (faults_stop sh l.role (length sh.roles) f within e) ∙ l.invariant.unfaulted;
      parts = stopped_refused sh (sheet_valid s) l.role f within e;
    })
