-- Laws of the definitions: the direction has n elements, and what a function's calls leave, put together.
use Rattle.std.specs.Prelude.{◌≡◌, refl, Option, Some, None, List, ℕ, ◌*◌, Float}
use Rattle.vector.specs.Vector.{divided}
use Rattle.matrix.specs.Matrix.{columns_divided}
use Rattle.scaled.specs.Scaled.{k_scale, column_scales}
use Rattle.scaled_ray.specs.ScaledRay.{ray_scaled}
use Rattle.scaled_ray.specs.Laws.{Fills, scaled_fills}
use Rattle.ray.specs.Ray.{ray_by, with_scale, descent_ray}

with_fills : (n m : ℕ) (q c e : List Float) (s : Option Float) → Fills n (with_scale n m q c e s)
unfolding with_scale ray_by
with_fills n m q c e (Some scale) = scaled_fills n m _ c _
with_fills n m q c e None = refl

pub fills : (n m : ℕ) (q c e : List Float) → Fills n (descent_ray n m q c e)
unfolding descent_ray
fills n m q c e = with_fills n m q c e (k_scale n q)

-- what the calls leave
pub by_from : {columns ks es : List Float} (n m : ℕ) (q c e : List Float) (scale : Float) → columns ≡ column_scales n m e →
    ks ≡ divided (n * n) q scale → es ≡ columns_divided n m e columns → ray_scaled n m ks c es ≡ ray_by n m q c e scale
unfolding ray_by
by_from n m q c e scale f g h = rw (h, g, f)
