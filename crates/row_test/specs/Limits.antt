-- qp.rs, `meets_rows`: whether each row's sum is within its limits, to within 1e-8 of the size of its terms and the limit.
use Rattle.std.specs.Prelude.{ℕ, Bool, List, Float}
use Rattle.std.specs.Float.Ieee.{le}
use Rattle.folds.specs.Fold.{all, both}
use Rattle.arith.specs.Float.{fadd, fsub, fmul, at, sum}
use Rattle.arith.specs.Scalar.{abs}
use Rattle.reductions.specs.Reductions.{dot}
use Rattle.columns.specs.Columns.{column}
use Rattle.units.specs.Units.{rounding}

-- `a.iter().zip(x.iter()).map(|(a, x)| (a * x).abs()).sum()`
unfoldable pub row_terms : (n : ℕ) (a x : List Float) → Float
row_terms n a x = sum n (λ i. abs (fmul (at a i) (at x i)))

-- `lower - 1e-8 * (terms + lower.abs()) <= sum && sum <= upper + 1e-8 * (terms + upper.abs())`
unfoldable pub within : (total terms lower upper : Float) → Bool
within total terms lower upper =
    both (le (fsub lower (fmul rounding (fadd terms (abs lower)))) total) (le total (fadd upper (fmul rounding (fadd terms (abs upper)))))

-- `let sum = a.dot(&x)`
unfoldable pub meets_row : (n : ℕ) (x a : List Float) (lower upper : Float) → Bool
meets_row n x a lower upper = within (dot n a x) (row_terms n a x) lower upper

unfoldable pub meets_rows : (n r : ℕ) (x a row_lower row_upper : List Float) → Bool
meets_rows n r x a row_lower row_upper = all r (λ j. meets_row n x (column n a j) (at row_lower j) (at row_upper j))
