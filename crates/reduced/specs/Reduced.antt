-- qp.rs, `solve_noisy_kkt`: its steps in the null space of Eᵀ. K is n by n, Z is n by d; c and x have n elements, v and the gradient d.
use Rattle.std.specs.Prelude.{Option, Some, None, ℕ, ◌+◌, ◌*◌, List, length, take, Float}
use Rattle.folds.specs.Fold.{fold}
use Rattle.arith.specs.Float.{fmul, fdiv, f0, epsilon, fromℕ, at}
use Rattle.arith.specs.Scalar.{max}
use Rattle.reductions.specs.Reductions.{dot, amax}
use Rattle.vector.specs.Vector.{add, sub, add_scaled, filled}
use Rattle.columns.specs.Columns.{column}
use Rattle.matrix.specs.Matrix.{index, mul, tr_mul, mul_vec, tr_mul_vec}
use Rattle.eigen.specs.Eigen.{Eigen, eigen, nothing, symmetric_eigen, range}
use Rattle.reduced.specs.declared.Hessian.{Hessian}

-- `&c - k * &x`
unfoldable pub gradient : (n : ℕ) (k c x : List Float) → List Float
gradient n k c x = sub n c (mul_vec n n k x)

-- `z.transpose() * (&c - k * &x0)`
unfoldable pub reduced_gradient : (n d : ℕ) (k c z x : List Float) → List Float
reduced_gradient n d k c z x = tr_mul_vec n d z (gradient n k c x)

-- `z.transpose() * k * z`
unfoldable pub projected : (n d : ℕ) (k z : List Float) → List Float
projected n d k z = mul d n d (tr_mul n d n z k) z

-- ---- `reduced_hessian`: the eigendecomposition of ZᵀKZ, and the cutoff below which its eigenvalues count as zero
pub data Reduced : Type 0 where
  reduced : (values vectors : List Float) (cutoff : Float) → Reduced
  none : Reduced

-- `eigen.values.amax().max(k.amax()) * (k.nrows() + 1) as f64 * f64::EPSILON`
unfoldable pub cutoff : (n d : ℕ) (k values : List Float) → Float
cutoff n d k values = fmul (fmul (max (amax d values) (amax (n * n) k)) (fromℕ (n + 1))) epsilon

-- `.ok_or(CutupError::SingularCovariance)?`
unfoldable pub with_cutoff : (n d : ℕ) (k : List Float) → Eigen → Reduced
with_cutoff n d k (eigen values vectors) = reduced values vectors (cutoff n d k values)
with_cutoff n d k nothing = none

unfoldable pub reduced_hessian : (n d : ℕ) (k z : List Float) → Reduced
reduced_hessian n d k z = with_cutoff n d k (symmetric_eigen d (projected n d k z))

-- what counts of what the code leaves
abbrev pub hessian_of : (d : ℕ) → Option Hessian → (vectors : List Float) → Reduced
hessian_of d (Some h) vectors = reduced (take d h.values) (take (d * d) vectors) h.cutoff
hessian_of d None vectors = none

-- ---- the step in the range of the reduced Hessian
-- `v + w * (w.dot(&gradient) / value)`
unfoldable pub range_one : (d : ℕ) (values vectors gradient : List Float) (j : ℕ) (v : List Float) → List Float
range_one d values vectors gradient j v =
    add_scaled d v (column d vectors j) (fdiv (dot d (column d vectors j) gradient) (at values j))

unfoldable pub range_each : (d : ℕ) (values vectors gradient : List Float) (range : List ℕ) (v : List Float) → List Float
range_each d values vectors gradient range v = fold (length range) (λ i. range_one d values vectors gradient (index range i)) v

-- `let (range, _) = eigen.split(cutoff)`, then a fold over it from zeros
unfoldable pub range_part : (d : ℕ) (values vectors : List Float) (cutoff : Float) (gradient : List Float) → List Float
range_part d values vectors cutoff gradient = range_each d values vectors gradient (range d values cutoff) (filled d f0)

-- `x0 + z * v`
unfoldable pub moved : (n d : ℕ) (x0 z v : List Float) → List Float
moved n d x0 z v = add n x0 (mul_vec n d z v)
