-- A matrix that was written over the start of a list, then divided there by rows or by columns.
use Rattle.std.specs.Prelude.{◌≡◌, refl, List, ℕ, ◌*◌, length, Float}
use Rattle.std.proofs.Common.{sym, ◌∙◌, arith}
use Rattle.folds.specs.Fold.{over}
use Rattle.folds.specs.Tab.{over_again}
use Rattle.vector.specs.Vector.{copy}
use Rattle.vector.specs.Laws.{same-over, same-copy}
use Rattle.matrix.specs.Matrix.{rows_divided, columns_divided}
use Rattle.matrix.specs.Laws.{length-rows_divided, length-columns_divided, rows_divided-same, columns_divided-same}

module _ (n m : ℕ) (a by : List Float) where
  pub rows_divided-copy : rows_divided n m (copy (n * m) a) by ≡ rows_divided n m a by
  rows_divided-copy = rows_divided-same n m (copy (n * m) a) a (same-copy (n * m) a) by by (λ k h. refl)

  pub columns_divided-copy : columns_divided n m (copy (n * m) a) by ≡ columns_divided n m a by
  columns_divided-copy = columns_divided-same n m (copy (n * m) a) a (same-copy (n * m) a) by by (λ k h. refl)

module _ {r s : List Float} (n m : ℕ) (l by o : List Float) (h : length l ≡ n * m) (e : r ≡ over l o) where
  pub rows-divided : s ≡ over (rows_divided n m r by) r → s ≡ over (rows_divided n m l by) o
  rows-divided f =
      let p = rows_divided-same n m (over l o) l (same-over (n * m) l o (omega arith)) by by (λ k q. refl) in
      f ∙ rw (e, p, over_again (rows_divided n m l by) l o (h ∙ sym (length-rows_divided n m l by)))

  pub columns-divided : s ≡ over (columns_divided n m r by) r → s ≡ over (columns_divided n m l by) o
  columns-divided f =
      let p = columns_divided-same n m (over l o) l (same-over (n * m) l o (omega arith)) by by (λ k q. refl) in
      f ∙ rw (e, p, over_again (columns_divided n m l by) l o (h ∙ sym (length-columns_divided n m l by)))
