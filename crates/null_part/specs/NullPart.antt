-- qp.rs, `descent_ray`: c's part in the null space of the reduced Hessian. Z is n by d; c and the direction have n elements.
use Rattle.std.specs.Prelude.{ℕ, List, length, Float}
use Rattle.folds.specs.Fold.{fold}
use Rattle.arith.specs.Float.{f0}
use Rattle.reductions.specs.Reductions.{dot}
use Rattle.vector.specs.Vector.{add_scaled, filled}
use Rattle.columns.specs.Columns.{column}
use Rattle.matrix.specs.Matrix.{index, mul_vec}
use Rattle.eigen.specs.Eigen.{null}

-- `let v = &z * w; let along = v.dot(c); direction + v * along`
unfoldable pub null_one : (n d : ℕ) (z vectors c : List Float) (j : ℕ) (direction : List Float) → List Float
null_one n d z vectors c j direction = let v = mul_vec n d z (column d vectors j) in add_scaled n direction v (dot n v c)

unfoldable pub null_each : (n d : ℕ) (z vectors c : List Float) (null : List ℕ) (direction : List Float) → List Float
null_each n d z vectors c null direction = fold (length null) (λ i. null_one n d z vectors c (index null i)) direction

-- `let (_, null) = eigen.split(cutoff)`, then a fold over it from zeros
unfoldable pub null_part : (n d : ℕ) (values vectors : List Float) (cutoff : Float) (z c : List Float) → List Float
null_part n d values vectors cutoff z c = null_each n d z vectors c (null d values cutoff) (filled n f0)
