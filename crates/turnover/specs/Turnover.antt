-- qp.rs: `kink_multiplier`, `sum_rounding`, and what `solve_turnover_capped` measures of a point. The kinks' points are `at`.
use Rattle.std.specs.Prelude.{ℕ, Bool, List, Float}
use Rattle.std.specs.Float.{binary64}
use Rattle.std.specs.Float.Ieee.{of_bits, lt, le}
use Rattle.folds.specs.Fold.{pick}
use Rattle.arith.specs.Float.{fadd, fsub, fmul, f0, f1, epsilon, fromℕ}
use Rattle.arith.specs.Scalar.{max}
use Rattle.reductions.specs.Reductions.{amax, total_abs}
use Rattle.vector.specs.Vector.{sub}
use Rattle.matrix.specs.Matrix.{mul_vec}

abbrev f4 : Float
f4 = of_bits binary64 0x4010_0000_0000_0000

-- `if pull > 0.0 { pull } else { 1.0 }`
unfoldable pub first_raise : (pull : Float) → Float
first_raise pull = pick (lt f0 pull) pull f1

-- `let pull = (q * &kinks.at - c).amax()`
unfoldable pub kink_multiplier : (n : ℕ) (q c at : List Float) → Float
kink_multiplier n q c at = first_raise (amax n (sub n (mul_vec n n q at) c))

-- `4.0 * terms as f64 * f64::EPSILON * size`
unfoldable pub sum_rounding : (terms : ℕ) (size : Float) → Float
sum_rounding terms size = fmul (fmul (fmul f4 (fromℕ terms)) epsilon) size

-- `(x - &kinks.at).abs().sum()`
unfoldable pub turnover : (n : ℕ) (x at : List Float) → Float
turnover n x at = total_abs n (sub n x at)

-- `sum_rounding(x.len(), x.amax().max(1.0))`
unfoldable pub slack : (n : ℕ) (x : List Float) → Float
slack n x = sum_rounding n (max (amax n x) f1)

-- `value <= limit + slack(x)`, `value >= limit - slack(x)`
unfoldable pub within : (n : ℕ) (value limit : Float) (x : List Float) → Bool
within n value limit x = le value (fadd limit (slack n x))

unfoldable pub reaches : (n : ℕ) (value limit : Float) (x : List Float) → Bool
reaches n value limit x = le (fsub limit (slack n x)) value
