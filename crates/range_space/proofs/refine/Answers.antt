use Rattle.folds.specs.Tab.{taken-over}
use Rattle.vector.specs.Laws.{length-add}
use Rattle.range_space.specs.Factored.{added, refine}
use Rattle.range_space.proofs.refine.Goals as goal

pub returns : goal.returns
unfolding refine added
returns c = rw (
  ← c.left_of_c.ensures,
  ← c.left_of_b.ensures,
  ← c.solve.ensures,
  taken-over _ _ (length-add _ _ _) c.add.ensures,
  taken-over _ _ (length-add _ _ _) c.add-2.ensures,
)
