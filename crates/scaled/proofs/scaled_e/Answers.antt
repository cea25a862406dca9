use Rattle.folds.specs.Kit.{◌∙◌}
use Rattle.vector.specs.Laws.{length-copy}
use Rattle.matrix.specs.InPlace.{columns-divided, columns_divided-copy}
use Rattle.scaled.proofs.scaled_e.Goals as goal

pub returns : goal.returns
returns c =
    columns-divided _ _ _ _ _ (length-copy _ _) c.copy.ensures c.divide_columns.ensures
    ∙ rw columns_divided-copy
