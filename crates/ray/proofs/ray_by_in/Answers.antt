use Rattle.folds.specs.Kit.{◌∙◌}
use Rattle.folds.specs.Tab.{taken-over}
use Rattle.vector.specs.Laws.{length-divided}
use Rattle.matrix.specs.Laws.{length-columns_divided}
use Rattle.ray.specs.Laws.{by_from}
use Rattle.ray.proofs.ray_by_in.Goals as goal

pub returns : goal.returns
returns c =
    c.ray_scaled.ensures
    ∙ by_from _ _ _ _ _ _ c.column_scales-columns.ensures
    (taken-over _ _ (length-divided _ _ _) c.divided.ensures)
    (taken-over _ _ (length-columns_divided _ _ _ _) c.scaled_e.ensures)
