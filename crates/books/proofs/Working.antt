-- The worked cases.
use Rattle.std.proofs.Common.{◌≡◌, ℕ, ◌+◌, ◌-◌, ◌^◌, ◌<◌, ◌≤◌, max, Some, None, refl, arith, lit<, lit≤}
use Rattle.book_rows.specs.Bytes.{number_of}
use Rattle.books.specs.Cases.{Worked}
use Rattle.books.specs.Margins.{Near}
use Rattle.book_rows.specs.Nexts.{Next}
use Rattle.book_rows.specs.Sets.{InRow}
use Rattle.book_rows.specs.Slots.{InSlot}
use Rattle.books.proofs.Nexts.{next_in_row}
use Rattle.book_rows.proofs.Times.{before_slot, after_slot}

-- a value of the set is its own next
pub next_here : (P : ℕ → Type 0) (v : ℕ) → P v → Next P v (Some v)
next_here P v p = record { above = omega arith; within = p; least = λ u h k _. omega (arith, h, k) }

-- the next of a margin, from the next of the row below
pub near_next : (P : ℕ → Type 0) (e v w x : ℕ) → Next P (v - e) (Some w) → x ≡ max v (w - e) → x < 2 ^ 32 → Next (Near P e) v (Some x)
near_next P e v w x n is fits = record {
  above = omega (arith, is);
  within = (fits, (w, n.within, omega (arith, is), omega (arith, is, n.above)));
  least = λ u h k q.
      n.least q.1.0 (omega (arith, h, q.1.3)) (omega (arith, h, k, is, q.1.2)) q.1.1;
}

legal : (1 ≤ 5) × (10 + 5 ≤ 100)
legal = (lit≤ tt, lit≤ tt)

in_row : (v : ℕ) (o : _) → Next (InSlot 100 10 5) v o → Next (InRow 1 0 (InSlot 100 10 5)) v o
in_row v o n = next_in_row 1 0 (InSlot 100 10 5) (lit< tt) v o n

next_15 : Next (InSlot 100 10 5) 15 (Some 110)
next_15 = after_slot 100 10 5 15 legal (Some 110) (lit≤ tt) (lit< tt, refl)

pub worked : Worked
unfolding number_of
worked = record {
  nexts = (
    in_row 9 (Some 10) (before_slot 100 10 5 9 legal (Some 10) (lit< tt) (lit< tt, refl)),
    in_row 14 (Some 14) (next_here (InSlot 100 10 5) 14 (lit< tt, lit≤ tt, lit< tt)),
    in_row 15 (Some 110) next_15,
  );
  none = in_row 4294967280 None (after_slot 100 10 5 4294967280 legal None (lit≤ tt) (λ h. omega (arith, h)));
  within = ((lit< tt, (20, (lit< tt, (lit< tt, lit≤ tt, lit≤ tt)), lit≤ tt, lit≤ tt)), (lit< tt, (40, (lit< tt, (lit< tt, lit≤ tt, lit≤ tt)), lit≤ tt, lit≤ tt)));
  without = ((λ n. omega (arith, n.1.1.1.1, n.1.2)), (λ n. omega (arith, n.1.1.1.2, n.1.3)));
  far = near_next (InRow 1 0 (InSlot 100 10 5)) 3 18 110 107 (in_row 15 (Some 110) next_15) refl (lit< tt);
}
