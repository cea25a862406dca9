-- Laws of the definitions.
use Rattle.std.specs.Prelude.{◌≡◌, true, List, ℕ, ◌<◌, Float}
use Rattle.folds.specs.Fold.{all-at}
use Rattle.arith.specs.Float.{at}
use Rattle.columns.specs.Columns.{column}
use Rattle.row_test.specs.Limits.{meets_row, meets_rows}

-- a point that meets the rows meets each
pub meets_rows-at : (n r : ℕ) (x a row_lower row_upper : List Float) (j : ℕ) → j < r → meets_rows n r x a row_lower row_upper ≡ true →
    meets_row n x (column n a j) (at row_lower j) (at row_upper j) ≡ true
unfolding meets_rows
meets_rows-at n r x a row_lower row_upper j h e = all-at r j _ e h
