-- qp.rs, `updated`: the held variables that are not listed leave the factor. Both lists are in rising order, and l holds the factor of k variables in
-- its first k * k elements.
use Rattle.std.specs.Prelude.{ℕ, ◌-◌, List, length, Float}
use Rattle.folds.specs.Fold.{fold, pick}
use Rattle.folds.specs.Part.{Two, two}
use Rattle.folds.specs.Marks.{contains, remove}
use Rattle.matrix.specs.Matrix.{index}
use Rattle.update.specs.Update.{remove_column}

-- `if indices.binary_search(&held[position]).is_err() { cholesky = cholesky.remove_column(position); held.remove(position); }`
unfoldable pub leave_at : (indices : List ℕ) (position : ℕ) → Two (List ℕ) (List Float) → Two (List ℕ) (List Float)
leave_at indices position (two held l) =
    pick (contains indices (index held position)) (two held l) (two (remove position held) (remove_column (length held) position l))

-- `for position in (0..held.len()).rev()`
unfoldable pub leaving : (indices held : List ℕ) (l : List Float) → Two (List ℕ) (List Float)
leaving indices held l = fold (length held) (λ t. leave_at indices (length held - 1 - t)) (two held l)
