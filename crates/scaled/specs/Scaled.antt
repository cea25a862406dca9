-- qp.rs, `kkt_residual`, `within_rounding` and `Scaled`. K is n by n, E is n by m; c and x have n elements, b and the multipliers m.
use Rattle.std.specs.Prelude.{ℕ, ◌*◌, Bool, Option, Some, None, List, Float}
use Rattle.std.specs.Float.{binary64}
use Rattle.std.specs.Float.Ieee.{lt, le, eq, of_bits}
use Rattle.folds.specs.Fold.{tab, pick}
use Rattle.arith.specs.Float.{fadd, fmul, fdiv, f0, f1, fromℕ, at}
use Rattle.arith.specs.Scalar.{is_finite}
use Rattle.reductions.specs.Reductions.{scaled_norm}
use Rattle.vector.specs.Vector.{add, sub}
use Rattle.columns.specs.Columns.{columns_amax}
use Rattle.matrix.specs.Matrix.{trace, mul_vec, tr_mul_vec}
use Rattle.scaled.specs.System.{System, system}
use Rattle.scaled.specs.declared.Residual.{Residual}

-- ---- `kkt_residual`: how far x and λ are from solving Kx + Eλ = c, Eᵀx = b, and the size of the terms that is a difference of
unfoldable pub stationarity : (n m : ℕ) (k c e x multipliers : List Float) → Float
stationarity n m k c e x multipliers = scaled_norm n (sub n (add n (mul_vec n n k x) (mul_vec n m e multipliers)) c)

unfoldable pub feasibility : (n m : ℕ) (e b x : List Float) → Float
feasibility n m e b x = scaled_norm m (sub m (tr_mul_vec n m e x) b)

-- `norm(k) * x_norm + norm(e) * (x_norm + norm(multipliers)) + norm(c) + norm(b) + noise`
unfoldable pub size : System → (x multipliers : List Float) (noise : Float) → Float
size (system n m k c e b) x multipliers noise =
    let x_norm = scaled_norm n x in
    let k_terms = fmul (scaled_norm (n * n) k) x_norm in
    let e_terms = fmul (scaled_norm (n * m) e) (fadd x_norm (scaled_norm m multipliers)) in
    fadd (fadd (fadd (fadd k_terms e_terms) (scaled_norm n c)) (scaled_norm m b)) noise

unfoldable pub kkt_residual : System → (x multipliers : List Float) (noise : Float) → Residual
kkt_residual (system n m k c e b) x multipliers noise =
    record
    { residual = fadd (stationarity n m k c e x multipliers) (feasibility n m e b x); size = size (system n m k c e b) x multipliers noise }

-- ---- `within_rounding`
-- 1e-8
abbrev pub rounding : Float
rounding = of_bits binary64 0x3e45_798e_e230_8c3a

-- `Some(residual <= 1e-8 * size)`, or `None` where either overflowed
unfoldable pub within_rounding : Residual → Option Bool
within_rounding r =
    pick (is_finite r.residual) (pick (is_finite r.size) (Some (le r.residual (fmul rounding r.size))) None) None

-- ---- `Scaled::new`: K over its average diagonal entry, and each column of E over its largest entry
unfoldable pub average : (n : ℕ) (k : List Float) → Float
average n k = fdiv (trace n k) (fromℕ n)

-- 1 where the average is 0; `SingularCovariance` where it is negative or not finite
unfoldable pub k_scale : (n : ℕ) (k : List Float) → Option Float
k_scale n k =
    pick (eq (average n k) f0) (Some f1)
    (pick (is_finite (average n k)) (pick (lt f0 (average n k)) (Some (average n k)) None) None)

-- `s if s > 0.0 => s, _ => 1.0`
unfoldable pub above0_or1 : Float → Float
above0_or1 s = pick (lt f0 s) s f1

unfoldable pub above0_or1_each : (n : ℕ) (l : List Float) → List Float
above0_or1_each n l = tab n (λ i. above0_or1 (at l i))

-- the largest entry of each column of E, or 1 where that's zero; each column of E over it is `columns_divided`
unfoldable pub column_scales : (n m : ℕ) (e : List Float) → List Float
column_scales n m e = above0_or1_each m (columns_amax n m e)
