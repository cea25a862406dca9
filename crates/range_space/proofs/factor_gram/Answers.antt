use Rattle.folds.specs.Tab.{over-whole}
use Rattle.matrix.specs.Laws.{length-tr_mul}
use Rattle.range_space.specs.Factored.{gram}
use Rattle.range_space.proofs.factor_gram.Goals as goal

pub returns : goal.returns
unfolding gram
returns c =
    rw (← over-whole _ _ (length-tr_mul _ _ _ _ _) c.requires.1
    c.tr_mul.ensures) c.definite.ensures
