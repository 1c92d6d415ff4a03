use Rattle.std.proofs.Common.{◌≡◌, ◌+◌, ◌/◌, ◌%◌, ◌<◌, ◌≤◌, length, Some, None, sym, ap, ◌∙◌, subst}
use Rattle.std.proofs.lemmas.Result.{err_from_is_err_and}
use Rattle.std.specs.Result.{result_err}
use Rattle.std.specs.Slice.Iter.{chunks_exact_rest}
use Rattle.std.specs.Iterator.Adapters.{enumerate_source}
use Rattle.books.specs.declared.fault.BookFault.TheVariants.{Row}
use Rattle.books.specs.Faults.{fault_of}
use Rattle.books.proofs.Reading.{fault_of_rows, judged_by, read_more, read_bad, read_all, read_good, read_same}
use Rattle.books.proofs.row_book.RowBook.read.Given.{Over}
use Rattle.books.proofs.row_book.RowBook.read.Goals as goal
use Rattle.books.proofs.row_book.RowBook.read.Goals.{After-from_residual, In-Some, In-None}

-- the row that its decoder refuses is the first bad one
bad_row : (g : Over) (c : After-from_residual g) → result_err c.from_residual.result ≡ fault_of g.R.RowKind.SIZE g.R.RowKind.rule c.args.bytes.now
bad_row g c =
    let size = g.R.RowKind.SIZE in
    let rule = g.R.RowKind.rule in
    let bytes = c.args.bytes.now in
    let inv = c.loop-row.invariant in
    let step = c.in-Some.ensures.steps in
    let whole : length bytes % size ≡ 0 = subst (λ s. length bytes % s ≡ 0) c.SIZE.ensures c.if-given-SIZE-ne0.false in
    let few : length bytes / size ≤ 64 = subst (λ s. length bytes / s ≤ 64) c.SIZE-else-given-SIZE-ne0.ensures c.if-given-SIZE-gt64.false in
    let none : c.decode.result ≡ None = c.in_err-ok_or.ensures.ok_part in
    let said = rw none at c.decode.ensures in
    let given = rw none at c.in_err-ok_or.ensures.value in
    let place : c.in-Some.row ≡ length c.loop-row.rows.items = step.1 ∙ inv.number in
    let is : c.in_err-ok_or.field-0.0 ≡ Row (length c.loop-row.rows.items) = cc in
    let p = err_from_is_err_and c.from_residual.result c.from_residual.ensures.1 in
    let bad = read_bad size rule g.R.RowKind.reads bytes g.R.RowKind.sized c.loop-row.rows.items _ c.in-Some.part.now _ inv.so_far step.0.1.0 (step.0.1.1 ∙ inv.size) said.0 in
    rw (p.1, p.2, is) (fault_of_rows size rule bytes (Some (Row (length c.loop-row.rows.items))) whole few bad)

pub returns-in_err-ok_or-clause-fault : goal.returns-in_err-ok_or-clause-fault
returns-in_err-ok_or-clause-fault g c = bad_row g c

pub returns-in_err-ok_or-clause-judged : goal.returns-in_err-ok_or-clause-judged
returns-in_err-ok_or-clause-judged g c = judged_by g.R.RowKind.SIZE g.R.RowKind.rule g.R.RowKind.legal g.R.RowKind.decided c.args.bytes.now _ (bad_row g c)

pub loop-row-preserved : goal.loop-row-preserved
loop-row-preserved g c =
    let inv = c.loop-row.invariant in
    let step = c.in-Some.ensures.steps in
    let said = rw c.in_ok-ok_or.ensures.ok_part at c.decode.ensures in
    record {
      number = step.2 ∙ ap (λ n. n + 1) inv.number ∙ sym c.push.ensures.len;
      size = step.0.0 ∙ inv.size;
      so_far = rw c.push.ensures.items (read_more g.R.RowKind.SIZE g.R.RowKind.rule g.R.RowKind.reads c.args.bytes.now g.R.RowKind.sized c.loop-row.rows.items _ c.in-Some.part.now _
          inv.so_far step.0.1.0 (step.0.1.1 ∙ inv.size) c.in_ok-ok_or.field-0 said.1 said.0);
    }

-- less than a row is left
short : (g : Over) (c : In-None g) → length (chunks_exact_rest (enumerate_source c.loop-row.row-iterator)) < g.R.RowKind.SIZE
short g c = subst (λ s. length (chunks_exact_rest (enumerate_source c.loop-row.row-iterator)) < s) c.loop-row.invariant.size c.in-None.ensures.steps.0.1.0

all_read : (g : Over) (c : In-None g) → length c.loop-row.rows.items ≡ length c.args.bytes.now / g.R.RowKind.SIZE
all_read g c =
    read_all g.R.RowKind.SIZE g.R.RowKind.rule g.R.RowKind.reads c.args.bytes.now g.R.RowKind.sized c.loop-row.rows.items _ c.loop-row.invariant.so_far (short g c)

few : (g : Over) (c : In-None g) → length c.args.bytes.now / g.R.RowKind.SIZE ≤ 64
few g c = subst (λ s. length c.args.bytes.now / s ≤ 64) c.SIZE-else-given-SIZE-ne0.ensures c.if-given-SIZE-gt64.false

no_fault : (g : Over) (c : In-None g) → None ≡ fault_of g.R.RowKind.SIZE g.R.RowKind.rule c.args.bytes.now
no_fault g c =
    let size = g.R.RowKind.SIZE in
    let bytes = c.args.bytes.now in
    let whole : length bytes % size ≡ 0 = subst (λ s. length bytes % s ≡ 0) c.SIZE.ensures c.if-given-SIZE-ne0.false in
    fault_of_rows size g.R.RowKind.rule bytes None whole (few g c)
    (read_good size g.R.RowKind.rule g.R.RowKind.reads bytes g.R.RowKind.sized c.loop-row.rows.items _ c.loop-row.invariant.so_far (short g c))

pub returns-clause-fault : goal.returns-clause-fault
returns-clause-fault g c = no_fault g (goal.at.returns-clause-fault g c).In-None

pub returns-clause-judged : goal.returns-clause-judged
returns-clause-judged g c =
    judged_by g.R.RowKind.SIZE g.R.RowKind.rule g.R.RowKind.legal g.R.RowKind.decided c.args.bytes.now None (no_fault g (goal.at.returns-clause-judged g c).In-None)

pub returns-clause-book : goal.returns-clause-book
returns-clause-book g c =
    let at = (goal.at.returns-clause-book g c).In-None in (
      all_read g at,
      read_same g.R.RowKind.SIZE g.R.RowKind.rule g.R.RowKind.reads c.args.bytes.now g.R.RowKind.sized c.loop-row.rows.items _ c.loop-row.invariant.so_far (short g at)
          g.R.RowKind.within g.R.RowKind.meant g.R.RowKind.same,
    )
