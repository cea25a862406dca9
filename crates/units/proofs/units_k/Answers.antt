use Rattle.matrix.specs.Laws.{length-rows_divided}
use Rattle.matrix.specs.InPlace.{columns-divided}
use Rattle.units.specs.Units.{units_k}
use Rattle.units.proofs.units_k.Goals as goal

pub returns : goal.returns
unfolding units_k
returns c =
    columns-divided _ _ _ _ _ (length-rows_divided _ _ _ _) c.divide_rows.ensures
    c.divide_columns.ensures
