use Rattle.folds.specs.Kit.{kit}
use Rattle.rotation.specs.Rotation.{turn_columns, turn_in_row}
use Rattle.rotation.proofs.turn_columns.Goals as goal

pub loop-k-init : goal.loop-k-init
unfolding turn_columns
loop-k-init c = search kit

pub loop-k-preserved : goal.loop-k-preserved
unfolding turn_columns turn_in_row
loop-k-preserved c = search kit

pub returns : goal.returns
unfolding turn_columns
returns c = search kit
