-- A product with the identity adds zeros only: of a finite matrix it is a + 0, entry by entry.
use Rattle.std.specs.Prelude.{◌≡◌, List, ℕ, ◌+◌, ◌*◌, ◌<◌, Float}
use Rattle.std.proofs.Math.Path.{sym, ap}
use Rattle.std.proofs.Common.{◌∙◌, le_refl}
use Rattle.folds.specs.Cell.{cell-lt}
use Rattle.arith.specs.Float.{fmul, f0}
use Rattle.arith.specs.Neutral.{Held, plus, mul-one, one-mul, mul-zero, zero-mul, add-zero, sum-one}
use Rattle.vector.specs.Vector.{add_scalar}
use Rattle.vector.specs.Laws.{Holding, length-add_scalar, add_scalar-at}
use Rattle.columns.specs.Columns.{cell}
use Rattle.matrix.specs.Matrix.{identity, columns_dot, tr_mul, cell_dot, mul}
use Rattle.columns.specs.Laws.{tab_m-all}
use Rattle.matrix.specs.Laws.{identity-at, unit-same, unit_other}

module _ (n : ℕ) (a : List Float) (h : Holding (n * n) a) where
  place : (i j : ℕ) → i < n → j < n → i + j * n < n * n
  place i j p q = cell-lt i j n n (n * n) (le_refl (n * n)) p q

  held : (i j : ℕ) → i < n → j < n → Held (cell a n i j)
  held i j p q = h (i + j * n) (place i j p q)

  added : (i j : ℕ) → i < n → j < n → cell (add_scalar (n * n) a f0) n i j ≡ plus (cell a n i j)
  added i j p q = add_scalar-at (n * n) (i + j * n) (place i j p q) a f0 ∙ add-zero (cell a n i j) (held i j p q)

  pub identity-mul : tr_mul n n n (identity n) a ≡ add_scalar (n * n) a f0
  unfolding tr_mul columns_dot
  identity-mul =
      tab_m-all n n (columns_dot n (identity n) a) (add_scalar (n * n) a f0) (length-add_scalar (n * n) a f0)
      (λ i j p q. added i j p q ∙ sym (go i j p q))
    where
      go : (i j : ℕ) → i < n → j < n → columns_dot n (identity n) a i j ≡ plus (cell a n i j)
      go i j p q =
          let e : fmul (cell (identity n) n i i) (cell a n i j) ≡ cell a n i j =
          rw (identity-at n i i p p, unit-same i) (one-mul (cell a n i j) (held i j p q)) in
          sum-one n i (λ k. fmul (cell (identity n) n k i) (cell a n k j)) p (rw e (held i j p q))
          (λ k l z. rw (identity-at n k i l p, unit_other k i z) (zero-mul (cell a n k j) (held k j l q))) ∙ ap plus e

  pub mul-identity : mul n n n a (identity n) ≡ add_scalar (n * n) a f0
  unfolding mul cell_dot
  mul-identity =
      tab_m-all n n (cell_dot n n a (identity n)) (add_scalar (n * n) a f0) (length-add_scalar (n * n) a f0) (λ i j p q. added i j p q ∙ sym (go i j p q))
    where
      go : (i j : ℕ) → i < n → j < n → cell_dot n n a (identity n) i j ≡ plus (cell a n i j)
      go i j p q =
          let e : fmul (cell a n i j) (cell (identity n) n j j) ≡ cell a n i j =
          rw (identity-at n j j q q, unit-same j) (mul-one (cell a n i j) (held i j p q)) in
          sum-one n j (λ k. fmul (cell a n i k) (cell (identity n) n k j)) q (rw e (held i j p q))
          (λ k l z. rw (identity-at n k j l q, unit_other k j z) (mul-zero (cell a n i k) (held i k p l))) ∙ ap plus e
