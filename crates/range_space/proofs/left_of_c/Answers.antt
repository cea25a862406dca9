use Rattle.folds.specs.Kit.{◌∙◌}
use Rattle.folds.specs.Tab.{taken-over}
use Rattle.vector.specs.Laws.{length-sub, taken_less}
use Rattle.matrix.specs.Laws.{length-mul_vec}
use Rattle.range_space.specs.Factored.{left_of_c}
use Rattle.range_space.proofs.left_of_c.Goals as goal

pub returns : goal.returns
unfolding left_of_c
returns c =
    taken_less _ _ _ _ (length-sub _ _ _) c.sub.ensures c.sub_from.ensures
    ∙ rw (
      taken-over _ _ (length-mul_vec _ _ _ _) c.mul_vec.ensures,
      taken-over _ _ (length-mul_vec _ _ _ _) c.mul_vec-2.ensures,
    )
