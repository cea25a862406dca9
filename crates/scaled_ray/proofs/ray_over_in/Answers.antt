use Rattle.folds.specs.Kit.{◌∙◌}
use Rattle.scaled_ray.specs.Laws.{over-found, over-none}
use Rattle.scaled_ray.proofs.ray_over_in.Goals as goal

pub returns-in_err-hessian : goal.returns-in_err-hessian
returns-in_err-hessian c = rw c.from_residual.ensures (over-none _ _ _ _ _ c.in_err-hessian.ensures)

pub returns : goal.returns
returns c =
    c.beyond_rounding.ensures ∙ over-found _ _ _ _ _ c.in_ok-hessian.ensures c.null_part-direction.ensures
