use Rattle.folds.specs.Kit.{◌∙◌}
use Rattle.folds.specs.Tab.{taken-over}
use Rattle.vector.specs.Laws.{length-sub}
use Rattle.matrix.specs.Laws.{length-tr_mul_vec}
use Rattle.range_space.specs.Factored.{left_of_b}
use Rattle.range_space.proofs.left_of_b.Goals as goal

pub returns : goal.returns
unfolding left_of_b
returns c =
    taken-over _ _ (length-sub _ _ _) c.sub.ensures
    ∙ rw (taken-over _ _ (length-tr_mul_vec _ _ _ _) c.tr_mul_vec.ensures)
