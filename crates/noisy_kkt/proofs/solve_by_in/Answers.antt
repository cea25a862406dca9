use Rattle.folds.specs.Kit.{refl}
use Rattle.folds.specs.Tab.{taken-over}
use Rattle.vector.specs.Laws.{length-divided}
use Rattle.matrix.specs.Laws.{length-columns_divided}
use Rattle.noisy_kkt.specs.Laws.{by_from}
use Rattle.noisy_kkt.proofs.solve_by_in.Goals as goal

pub returns : goal.returns
returns c =
    by_from _ _ _ _ _ _ c.args.noise _ c.column_scales-columns.ensures
    (taken-over _ _ (length-divided _ _ _) c.divided.ensures)
    c.divided-c.ensures
    (taken-over _ _ (length-columns_divided _ _ _ _) c.scaled_e.ensures)
    c.div-b.ensures
    c.solve_scaled-answer.ensures
    refl
    (c.rescaled.ensures c.args.system.now.n)
