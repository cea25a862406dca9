-- qp.rs, `updated`: whether a factor of the block on the held variables is updated to the block on the listed ones, or computed afresh.
use Rattle.std.specs.Prelude.{ℕ, ◌+◌, ◌*◌, Bool, List, ltb, length}
use Rattle.folds.specs.Fold.{fold, pick}
use Rattle.folds.specs.Marks.{contains}
use Rattle.matrix.specs.Matrix.{index}

-- `indices.iter().filter(|i| held.binary_search(i).is_err()).count()`
unfoldable pub joining : (held indices : List ℕ) → ℕ
joining held indices = fold (length indices) (λ t m. pick (contains held (index indices t)) m (m + 1)) 0

-- `6 * joining > indices.len()`
unfoldable pub afresh : (joining listed : ℕ) → Bool
afresh joining listed = ltb listed (6 * joining)
