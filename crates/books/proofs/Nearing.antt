-- Margins over margins, and the margin of 0.
use Rattle.std.proofs.Common.{◌≡◌, ℕ, ◌+◌, ◌-◌, ◌^◌, ◌<◌, ◌≤◌, min, sym, subst, ⊎_elim, arith}
use Rattle.std.proofs.lemmas.Bool.{cases_lt}
use Rattle.books.specs.MarginLaws.{NoMargin, Piled}
use Rattle.books.specs.Margins.{Near}
use Rattle.book_rows.specs.Sets.{Same}

module _ (P : ℕ → Type 0) (ranged : (u : ℕ) → P u → u < 2 ^ 32) where
  pub no_margin : NoMargin P
  no_margin v = (
    (λ n. let e : n.1.0 ≡ v = omega (arith, n.1.2, n.1.3) in subst P e n.1.1),
    (λ p. (ranged v p, (v, p, omega arith, omega arith))),
  )

  -- a value w near v that the margin d reaches from u
  between : (d e v w u : ℕ) → P u → v < 2 ^ 32 → w < 2 ^ 32 → (u ≤ w + d) × (w ≤ u + d) → (w ≤ v + e) × (v ≤ w + e) → Near (Near P d) e v
  between d e v w u p fits within inner outer = (fits, (w, (within, (u, p, inner.0, inner.1)), outer.0, outer.1))

  apart : (d e v : ℕ) → Near P (d + e) v → Near (Near P d) e v
  apart d e v n =
      let fits = n.0 in
      let u = n.1.0 in
      let p = n.1.1 in
      let h = n.1.2 in
      let k = n.1.3 in
      let top = ranged u p in
      ⊎_elim
      (λ far. between d e v (v + e) u p fits (omega (arith, far, top)) (omega (arith, h), omega (arith, far)) (omega arith, omega arith))
      (λ reached. ⊎_elim
      (λ far. between d e v (v - e) u p fits (omega (arith, fits)) (omega (arith, far), omega (arith, k, far)) (omega arith, omega (arith, far)))
      (λ near. between d e v u u p fits top (omega arith, omega arith) (reached, omega (arith, near)))
      (cases_lt (u + e) v))
      (cases_lt (v + e) u)

  pub piled : Piled P
  piled = record {
    sum = λ d e v.
        ((λ n. (n.0, (n.1.1.1.0, n.1.1.1.1, omega (arith, n.1.1.1.2, n.1.2), omega (arith, n.1.1.1.3, n.1.3)))), apart d e v);
    widest = λ e v wide. (
      (λ n. (n.0, (n.1.0, n.1.1, omega (arith, ranged n.1.0 n.1.1), omega (arith, n.0)))),
      (λ n. (n.0, (n.1.0, n.1.1, omega (arith, wide, n.1.2), omega (arith, wide, n.1.3)))),
    );
  }

  -- the margin of a sum that is cut at 32 bits
  pub capped : (d e by v : ℕ) → by ≡ min (d + e) (2 ^ 32 - 1) → Same (Near P by v) (Near (Near P d) e v)
  capped d e by v is =
      let sum = piled.sum d e v in
      ⊎_elim
      (λ fits. let same : d + e ≡ by = omega (arith, is, fits) in
      ((λ n. sum.1 (subst (λ m. Near P m v) (sym same) n)), (λ n. subst (λ m. Near P m v) same (sum.0 n))))
      (λ wide. let full : 2 ^ 32 - 1 ≡ by = omega (arith, is, wide) in
      let widest = piled.widest (d + e) v wide in
      ((λ n. sum.1 (widest.1 (subst (λ m. Near P m v) (sym full) n))), (λ n. subst (λ m. Near P m v) full (widest.0 (sum.0 n)))))
      (cases_lt (d + e) (2 ^ 32 - 1))

-- margins of the same width over sets with the same values
pub near_same : (P Q : ℕ → Type 0) (e : ℕ) → ((u : ℕ) → Same (P u) (Q u)) → (u : ℕ) → Same (Near P e u) (Near Q e u)
near_same P Q e same u =
    ((λ n. (n.0, (n.1.0, (same n.1.0).0 n.1.1, n.1.2, n.1.3))), (λ n. (n.0, (n.1.0, (same n.1.0).1 n.1.1, n.1.2, n.1.3))))
