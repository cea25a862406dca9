-- qp.rs, `descent_ray`. Q is n by n, E is n by m; c has n elements.
use Rattle.std.specs.Prelude.{Option, Some, None, ℕ, ◌*◌, List, Float}
use Rattle.vector.specs.Vector.{divided}
use Rattle.matrix.specs.Matrix.{columns_divided}
use Rattle.scaled.specs.Scaled.{k_scale, column_scales}
use Rattle.scaled_ray.specs.ScaledRay.{Descent, no_descent, ray_scaled}

-- with Q over its scale and each column of E over its own; c stays
unfoldable pub ray_by : (n m : ℕ) (q c e : List Float) (scale : Float) → Descent
ray_by n m q c e scale = ray_scaled n m (divided (n * n) q scale) c (columns_divided n m e (column_scales n m e))

-- `Scaled::new(q, e)?`
unfoldable pub with_scale : (n m : ℕ) (q c e : List Float) → Option Float → Descent
with_scale n m q c e (Some scale) = ray_by n m q c e scale
with_scale n m q c e None = no_descent

unfoldable pub descent_ray : (n m : ℕ) (q c e : List Float) → Descent
descent_ray n m q c e = with_scale n m q c e (k_scale n q)
