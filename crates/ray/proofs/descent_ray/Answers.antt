use Rattle.ray.specs.Ray.{with_scale, descent_ray}
use Rattle.ray.proofs.descent_ray.Goals as goal

pub returns-in_err-scale : goal.returns-in_err-scale
unfolding descent_ray with_scale
returns-in_err-scale c = rw (c.from_residual.ensures, ← c.in_err-scale.ensures)

pub returns : goal.returns
unfolding descent_ray with_scale
returns c = rw (← c.in_ok-scale.ensures) c.ray_by.ensures
