use lib.Ieee.{nan}
use Rattle.columns.specs.Laws.{length-columns_amax}
use Rattle.folds.specs.Tab.{taken_edit}
use Rattle.units.specs.Units.{scale_or1, scales_or1, column_scales}
use Rattle.units.proofs.column_scales.Goals as goal

pub returns : goal.returns
unfolding column_scales scales_or1
returns c = taken_edit nan _ scale_or1 _ _ (length-columns_amax _ _ _) c.columns_amax.ensures c.scales_or_1.ensures
