-- qp.rs, `Constraints::new`: the tolerance, and the pivot: the remaining column of the largest norm. E and what is left of it are n by m.
use Rattle.std.specs.Prelude.{ℕ, max, Bool, false, not, List, get_or, Float, Option, Some, None}
use Rattle.folds.specs.Fold.{fold, pick}
use Rattle.folds.specs.Best.{last_largest}
use Rattle.arith.specs.Float.{fmul, f0, epsilon, fromℕ}
use Rattle.arith.specs.Scalar.{max as fmax, total_less}
use Rattle.reductions.specs.Reductions.{norm}
use Rattle.columns.specs.Columns.{column}

-- `left.column(j).norm()`
unfoldable pub column_norm : (n : ℕ) (a : List Float) (j : ℕ) → Float
column_norm n a j = norm n (column n a j)

-- `e.column_iter().map(|c| c.norm()).fold(0.0, f64::max)`
unfoldable pub largest_norm : (n m : ℕ) (e : List Float) → Float
largest_norm n m e = fold m (λ j s. fmax s (column_norm n e j)) f0

-- `n.max(m) as f64 * f64::EPSILON *` that: what is left of a column at or below it is rounding
unfoldable pub tolerance : (n m : ℕ) (e : List Float) → Float
tolerance n m e = fmul (fmul (fromℕ (max n m)) epsilon) (largest_norm n m e)

-- ---- the remaining column of the largest norm
-- `remaining` as a mark for each column: the source's list holds the marked ones in rising order
abbrev pub remains : (remaining : List Bool) (j : ℕ) → Bool
remains remaining j = get_or remaining j false

unfoldable pub offered : (n : ℕ) (left : List Float) (remaining : List Bool) (j : ℕ) → Option (ℕ × Float)
offered n left remaining j = pick (remains remaining j) (Some (j, column_norm n left j)) None

abbrev pub at_least : (new old : ℕ × Float) → Bool
at_least new old = not (total_less new.1 old.1)

-- `remaining.iter().map(..).enumerate().max_by(|a, b| a.1.total_cmp(&b.1))`: of equal norms the last
unfoldable pub largest_column : (n m : ℕ) (left : List Float) (remaining : List Bool) → Option (ℕ × Float)
largest_column n m left remaining = last_largest (λ a b. total_less a.1 b.1) m (offered n left remaining)
