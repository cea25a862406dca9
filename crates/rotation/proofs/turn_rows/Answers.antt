use Rattle.folds.specs.Kit.{kit}
use Rattle.rotation.specs.Rotation.{turn_rows, turn_in_column}
use Rattle.rotation.proofs.turn_rows.Goals as goal

pub loop-k-init : goal.loop-k-init
unfolding turn_rows
loop-k-init c = search kit

pub loop-k-preserved : goal.loop-k-preserved
unfolding turn_rows turn_in_column
loop-k-preserved c = search kit

pub returns : goal.returns
unfolding turn_rows
returns c = search kit
