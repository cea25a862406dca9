use Rattle.folds.specs.Kit.{◌∙◌}
use Rattle.constraints.specs.Laws.{new-parts}
use Rattle.scaled_ray.specs.Laws.{scaled-from}
use Rattle.scaled_ray.proofs.ray_scaled.Goals as goal

pub returns : goal.returns
returns c = c.ray_over.ensures ∙ scaled-from _ _ _ _ _ (new-parts _ _ _ _ _ _ _ c.new-pivots.ensures.result_after)
