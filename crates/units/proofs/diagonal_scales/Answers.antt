use Rattle.folds.specs.Kit.{taken-tab}
use Rattle.units.specs.Units.{diagonal_scales}
use Rattle.units.proofs.diagonal_scales.Goals as goal

pub returns : goal.returns
unfolding diagonal_scales
returns c = taken-tab _ _ _ c.write_diagonal_scales.ensures
