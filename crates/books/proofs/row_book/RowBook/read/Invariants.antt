use Rattle.std.proofs.Common.{◌≡◌, length}
use Rattle.std.specs.Iterator.Adapters.{enumerate_source, enumerate_count}
use Rattle.std.specs.Slice.Iter.{chunks_exact_rest, chunks_exact_size}
use Rattle.books.proofs.Reading.{ReadSoFar}
use Rattle.books.proofs.row_book.RowBook.read.Given as goal

abbrev pub invariant-loop-row : goal.invariant-loop-row
invariant-loop-row g l = record {
  number : enumerate_count l.row-iterator ≡ length l.rows.items;
  size : chunks_exact_size (enumerate_source l.row-iterator) ≡ g.R.RowKind.SIZE;
  so_far : ReadSoFar g.R.RowKind.SIZE g.R.RowKind.rule g.R.RowKind.reads l.bytes l.rows.items (chunks_exact_rest (enumerate_source l.row-iterator));
}
