-- qp.rs, `checked`, `Units` and `diagonal_scales`. K is n by n, E is n by m; c and x have n elements, b has m.
use Rattle.std.specs.Prelude.{ℕ, Bool, true, false, List, Float}
use Rattle.std.specs.Float.{binary64}
use Rattle.std.specs.Float.Ieee.{is_nan, lt, eq, of_bits}
use Rattle.folds.specs.Fold.{tab, all, pick}
use Rattle.arith.specs.Float.{fadd, fsub, fmul, fdiv, sqrt, f0, f1, at, sum}
use Rattle.arith.specs.Scalar.{abs, max, is_finite}
use Rattle.reductions.specs.Reductions.{amax}
use Rattle.vector.specs.Vector.{div}
use Rattle.columns.specs.Columns.{cell, column, columns_amax}
use Rattle.matrix.specs.Matrix.{rows_divided, columns_divided}

-- ---- `checked`: whether x satisfies Eᵀx = b in the original units, each constraint to within 1e-8 of the size of its terms
-- `(column / scale).component_mul(&x)`
unfoldable pub terms : (n : ℕ) (e x : List Float) (scale : Float) → List Float
terms n e x scale = tab n (λ i. fmul (fdiv (at e i) scale) (at x i))

-- `terms.iter().map(|t| t / largest).sum()` and `terms.iter().map(|t| (t / largest).abs()).sum()`
unfoldable pub sum_quotients : (n : ℕ) (ts : List Float) (by : Float) → Float
sum_quotients n ts by = sum n (λ i. fdiv (at ts i) by)

unfoldable pub sum_sizes : (n : ℕ) (ts : List Float) (by : Float) → Float
sum_sizes n ts by = sum n (λ i. abs (fdiv (at ts i) by))

unfoldable pub residual : (n : ℕ) (ts : List Float) (target largest : Float) → Float
residual n ts target largest = fsub (sum_quotients n ts largest) (fdiv target largest)

unfoldable pub size : (n : ℕ) (ts : List Float) (target largest : Float) → Float
size n ts target largest = fadd (sum_sizes n ts largest) (abs (fdiv target largest))

-- 1e-8
abbrev pub rounding : Float
rounding = of_bits binary64 0x3e45_798e_e230_8c3a

-- `!(residual.is_nan() || residual.abs() > 1e-8 * size)`
unfoldable pub meets : (n : ℕ) (ts : List Float) (target largest : Float) → Bool
meets n ts target largest =
    pick (is_nan (residual n ts target largest)) false
    (pick (lt (fmul rounding (size n ts target largest)) (abs (residual n ts target largest))) false true)

-- `terms.amax().max(target.abs())`
unfoldable pub largest_of : (n : ℕ) (ts : List Float) (target : Float) → Float
largest_of n ts target = max (amax n ts) (abs target)

unfoldable pub column_met : (n : ℕ) (ts : List Float) (target : Float) → Bool
column_met n ts target =
    pick (is_finite (largest_of n ts target))
    (pick (eq (largest_of n ts target) f0) true (meets n ts target (largest_of n ts target)))
    false

unfoldable pub met : (n : ℕ) (x e : List Float) (target scale : Float) → Bool
met n x e target scale = column_met n (terms n e x scale) (fdiv target scale)

unfoldable pub checked : (n m : ℕ) (x e b columns : List Float) → Bool
checked n m x e b columns = all m (λ j. met n x (column n e j) (at b j) (at columns j))

-- ---- `Units`: the problem restated in u = Dx
-- `s if s.is_finite() && s > 0.0 => s, _ => 1.0`
unfoldable pub scale_or1 : Float → Float
scale_or1 s = pick (is_finite s) (pick (lt f0 s) s f1) f1

unfoldable pub scales_or1 : (n : ℕ) (l : List Float) → List Float
scales_or1 n l = tab n (λ i. scale_or1 (at l i))

-- the largest entry of each column of E, or 1 where that's zero or not finite
unfoldable pub column_scales : (n m : ℕ) (e : List Float) → List Float
column_scales n m e = scales_or1 m (columns_amax n m e)

-- `k[(i, j)] / scales[i] / scales[j]`: dividing by each scale in turn
unfoldable pub units_k : (n : ℕ) (k scales : List Float) → List Float
units_k n k scales = columns_divided n n (rows_divided n n k scales) scales

-- `e[(i, j)] / column_scales[j] / scales[i]`
unfoldable pub units_e : (n m : ℕ) (e scales columns : List Float) → List Float
units_e n m e scales columns = rows_divided n m (columns_divided n m e columns) scales

-- `c.component_div(&scales)`, and each entry of b over its column's scale
abbrev pub units_c : (n : ℕ) (c scales : List Float) → List Float
units_c n c scales = div n c scales

abbrev pub units_b : (m : ℕ) (b columns : List Float) → List Float
units_b m b columns = div m b columns

-- `original`: x = D⁻¹u, and `original_multipliers`
abbrev pub original : (n : ℕ) (u scales : List Float) → List Float
original n u scales = div n u scales

abbrev pub original_multipliers : (m : ℕ) (multipliers columns : List Float) → List Float
original_multipliers m multipliers columns = div m multipliers columns

-- ---- `diagonal_scales`: sqrt(Kᵢᵢ) for each variable, or 1 where that's zero or not finite
unfoldable pub diagonal_scale : (n : ℕ) (k : List Float) (i : ℕ) → Float
diagonal_scale n k i = scale_or1 (sqrt (cell k n i i))

unfoldable pub diagonal_scales : (n : ℕ) (k : List Float) → List Float
diagonal_scales n k = tab n (diagonal_scale n k)
