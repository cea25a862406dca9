-- eigen.rs, `rotate`: the cosine and sine of the Jacobi rotation that zeroes the entry p, q of a symmetric matrix, n by n.
use Rattle.std.specs.Prelude.{ℕ, List, Float}
use Rattle.std.specs.Float.{binary64}
use Rattle.std.specs.Float.Ieee.{lt, of_bits}
use Rattle.folds.specs.Fold.{pick}
use Rattle.arith.specs.Float.{fadd, fsub, fmul, fdiv, sqrt, f1, f2, fhalf}
use Rattle.arith.specs.Scalar.{abs, signum}
use Rattle.columns.specs.Columns.{cell}
use Rattle.angle.specs.declared.Turn.{Turn}

-- 1e150
abbrev pub huge : Float
huge = of_bits binary64 0x5f13_8d35_2e50_96af

-- `let t = if tau.abs() > 1e150 { 0.5 / tau } else { tau.signum() / (tau.abs() + (tau * tau + 1.0).sqrt()) }`
unfoldable pub tangent : Float → Float
tangent tau = pick (lt huge (abs tau)) (fdiv fhalf tau) (fdiv (signum tau) (fadd (abs tau) (sqrt (fadd (fmul tau tau) f1))))

-- `let c = 1.0 / (t * t + 1.0).sqrt()`, `let s = t * c`
unfoldable pub turn_by : Float → Turn
turn_by t = let c = fdiv f1 (sqrt (fadd (fmul t t) f1)) in record { c = c; s = fmul t c }

-- `let tau = (a[(q, q)] - a[(p, p)]) / (2.0 * apq)`
unfoldable pub angle : (n p q : ℕ) (a : List Float) → Turn
angle n p q a = turn_by (tangent (fdiv (fsub (cell a n q q) (cell a n p p)) (fmul f2 (cell a n p q))))
