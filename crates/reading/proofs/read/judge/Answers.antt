use Rattle.std.proofs.Common.{◌≡◌, ℕ, ◌-◌, List, [], take, drop, Some, None, sym, ap, ◌∙◌, arith}
use Rattle.std.specs.List.{between}
use Rattle.std.proofs.lemmas.Result.{err_from_is_err_and}
use Rattle.sheet.specs.declared.counts.Counts.{Counts}
use Rattle.sheet.specs.Decode.{counts, name_count_of, table, role_spans, label_spans, state_spans}
use Rattle.sheet.specs.Refuse.{header_fault, table_fault, name_fault, states_fault, first, fault}
use Rattle.reading.proofs.read.judge.Goals as goal

module _ (bytes : List ℕ) (k : Counts) (is : k ≡ counts bytes) where
  roles_are : name_fault bytes 0 [] (between 0 k.roles (table bytes)) ≡ name_fault bytes 0 [] (role_spans bytes)
  roles_are =
      let e : k.roles - 0 ≡ (counts bytes).roles = omega (arith, ap (λ x. x.roles) is) in
      ap (λ n. name_fault bytes 0 [] (take n (table bytes))) e

  labels_are : (names : ℕ) → names ≡ name_count_of k → name_fault bytes k.roles [] (between k.roles names (table bytes)) ≡ name_fault bytes (counts bytes).roles [] (label_spans bytes)
  labels_are names n =
      let e : names - k.roles ≡ k.labels = omega arith in
      ap (λ m. name_fault bytes k.roles [] (take m (drop k.roles (table bytes)))) e
      ∙ ap (λ x. name_fault bytes x.roles [] (take x.labels (drop x.roles (table bytes)))) is

-- past header and pairs, what is left to judge
module _ (bytes given : List ℕ) (is : bytes ≡ given) (header : None ≡ header_fault given) (pairs : None ≡ table_fault bytes) where
  past_pairs : fault given
      ≡ first (name_fault bytes 0 [] (role_spans bytes)) (first (name_fault bytes (counts bytes).roles [] (label_spans bytes)) (states_fault (counts bytes) bytes (state_spans bytes)))
  unfolding fault
  past_pairs =
      let h : header_fault bytes ≡ None = ap header_fault is ∙ sym header in
      let t : table_fault bytes ≡ None = sym pairs in
      sym (ap fault is) ∙ rw (h, t)

pub returns-in_err-read : goal.returns-in_err-read
unfolding fault
returns-in_err-read c =
    let bytes = c.args.bytes.now in
    let header : header_fault bytes ≡ Some c.in_err-read.field-0.0 = sym c.in_err-read.ensures.judged in
    let p = err_from_is_err_and c.from_residual.result c.from_residual.ensures.1 in
    rw (p.1, p.2) (rw header)

pub returns-in_err-tiled : goal.returns-in_err-tiled
unfolding fault
returns-in_err-tiled c =
    let bytes = c.args.bytes.now in
    let is = c.in_ok-read.ensures.value in
    let header : header_fault bytes ≡ None = sym c.in_ok-read.ensures.judged in
    let pairs : table_fault bytes ≡ Some c.in_err-tiled.field-0.0 = sym (ap table_fault is) ∙ sym c.in_err-tiled.ensures.judged in
    let p = err_from_is_err_and c.from_residual-in_err-tiled.result c.from_residual-in_err-tiled.ensures.1 in
    rw (p.1, p.2) (rw (header, pairs))

pub returns-in_err-check_names : goal.returns-in_err-check_names
returns-in_err-check_names c =
    let read = c.in_ok-read.field-0 in
    let tiled = c.in_ok-tiled.tiled.paired in
    let same : tiled ≡ read = c.in_ok-tiled.ensures.value in
    let bytes = tiled.bytes.now in
    let left = past_pairs bytes c.args.bytes.now (ap (λ p. p.bytes.now) same ∙ c.in_ok-read.ensures.value) c.in_ok-read.ensures.judged (c.in_ok-tiled.ensures.judged ∙ sym (ap (λ p. table_fault p.bytes.now) same)) in
    let roles : name_fault bytes 0 [] (role_spans bytes) ≡ Some c.in_err-check_names.field-0.0 = sym (roles_are bytes tiled.counts tiled.counted) ∙ sym c.in_err-check_names.ensures in
    let p = err_from_is_err_and c.from_residual-in_err-check_names.result c.from_residual-in_err-check_names.ensures.1 in
    rw (p.1, p.2) (sym (left ∙ rw roles))

pub returns-in_err-check_names-2 : goal.returns-in_err-check_names-2
returns-in_err-check_names-2 c =
    let read = c.in_ok-read.field-0 in
    let tiled = c.in_ok-tiled.tiled.paired in
    let same : tiled ≡ read = c.in_ok-tiled.ensures.value in
    let bytes = tiled.bytes.now in
    let left = past_pairs bytes c.args.bytes.now (ap (λ p. p.bytes.now) same ∙ c.in_ok-read.ensures.value) c.in_ok-read.ensures.judged (c.in_ok-tiled.ensures.judged ∙ sym (ap (λ p. table_fault p.bytes.now) same)) in
    let roles : name_fault bytes 0 [] (role_spans bytes) ≡ None = sym (roles_are bytes tiled.counts tiled.counted) ∙ sym c.in_ok-check_names.ensures in
    let labels : name_fault bytes (counts bytes).roles [] (label_spans bytes) ≡ Some c.in_err-check_names-2.field-0.0 =
    sym (labels_are bytes tiled.counts tiled.counted c.name_count.result c.name_count.ensures) ∙ sym c.in_err-check_names-2.ensures in
    let p = err_from_is_err_and c.from_residual-in_err-check_names-2.result c.from_residual-in_err-check_names-2.ensures.1 in
    rw (p.1, p.2) (sym (left ∙ rw (roles, labels)))

pub returns : goal.returns
returns c =
    let read = c.in_ok-read.field-0 in
    let tiled = c.in_ok-tiled.tiled.paired in
    let same : tiled ≡ read = c.in_ok-tiled.ensures.value in
    let bytes = tiled.bytes.now in
    let left = past_pairs bytes c.args.bytes.now (ap (λ p. p.bytes.now) same ∙ c.in_ok-read.ensures.value) c.in_ok-read.ensures.judged (c.in_ok-tiled.ensures.judged ∙ sym (ap (λ p. table_fault p.bytes.now) same)) in
    let roles : name_fault bytes 0 [] (role_spans bytes) ≡ None = sym (roles_are bytes tiled.counts tiled.counted) ∙ sym c.in_ok-check_names.ensures in
    let labels : name_fault bytes (counts bytes).roles [] (label_spans bytes) ≡ None =
    sym (labels_are bytes tiled.counts tiled.counted c.name_count.result c.name_count.ensures) ∙ sym c.in_ok-check_names-2.ensures in
    c.check_states.ensures ∙ ap (λ x. states_fault x bytes (state_spans bytes)) tiled.counted ∙ sym (left ∙ rw (roles, labels))
