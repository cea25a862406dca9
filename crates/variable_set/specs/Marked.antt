-- How many join, with the held set as a mark for each variable. `Laws.antt` has that this is `Joining.joining`.
use Rattle.std.specs.Prelude.{ℕ, ◌+◌, Bool, List, length}
use Rattle.folds.specs.Fold.{fold, pick}
use Rattle.folds.specs.Marks.{marked}
use Rattle.matrix.specs.Matrix.{index}

-- how many of the listed are not marked
unfoldable pub count_if_new : (held : List Bool) (i m : ℕ) → ℕ
count_if_new held i m = pick (marked held i) m (m + 1)

unfoldable pub joining : (held : List Bool) (indices : List ℕ) → ℕ
joining held indices = fold (length indices) (λ t. count_if_new held (index indices t)) 0
