-- qp.rs, `slack_scale` and `scales_with_slacks`: the scales of the variables, then of the slacks. n originals, r rows; a is n by r. `++` is Rust's
-- `chain`.
use Rattle.std.specs.Prelude.{ℕ, ◌+◌, List, ◌++◌, Float}
use Rattle.std.specs.Float.Ieee.{eq}
use Rattle.folds.specs.Fold.{fold, tab, pick}
use Rattle.arith.specs.Float.{fdiv, f0, infinity, at}
use Rattle.arith.specs.Scalar.{abs, min}
use Rattle.vector.specs.Vector.{copy}
use Rattle.columns.specs.Columns.{column}
use Rattle.units.specs.Units.{scale_or1, diagonal_scales}

-- ---- `slack_scale`
-- `.filter(|(a, _)| *a != 0.0).map(|(a, s)| s / a.abs()).fold(f64::INFINITY, f64::min)`
unfoldable pub smaller : (scale s a : Float) → Float
smaller scale s a = pick (eq a f0) scale (min scale (fdiv s (abs a)))

unfoldable pub smallest : (n : ℕ) (scales a : List Float) → Float
smallest n scales a = fold n (λ i scale. smaller scale (at scales i) (at a i)) infinity

-- `if scale.is_finite() && scale > 0.0 { scale } else { 1.0 }`
unfoldable pub slack_scale : (n : ℕ) (scales a : List Float) → Float
slack_scale n scales a = scale_or1 (smallest n scales a)

-- ---- `scales_with_slacks`
-- `scales[n + j] = slack_scale(&scales.as_slice()[..n], column.iter().copied())`
unfoldable pub slack_scales : (n r : ℕ) (scales a : List Float) → List Float
slack_scales n r scales a = tab r (λ j. slack_scale n scales (column n a j))

unfoldable pub scales_with_slacks : (n r : ℕ) (q a : List Float) → List Float
scales_with_slacks n r q a = copy n (diagonal_scales (n + r) q) ++ slack_scales n r (diagonal_scales (n + r) q) a
