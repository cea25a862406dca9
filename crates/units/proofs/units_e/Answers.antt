use Rattle.matrix.specs.Laws.{length-columns_divided}
use Rattle.matrix.specs.InPlace.{rows-divided}
use Rattle.units.specs.Units.{units_e}
use Rattle.units.proofs.units_e.Goals as goal

pub returns : goal.returns
unfolding units_e
returns c =
    rows-divided _ _ _ _ _ (length-columns_divided _ _ _ _) c.divide_columns.ensures
    c.divide_rows.ensures
