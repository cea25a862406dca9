use Rattle.folds.specs.Kit.{◌-◌, kit}
use Rattle.eigen.specs.Eigen.{off_diagonal}
use Rattle.eigen.proofs.off_diagonal.Goals as goal

pub loop-p-init : goal.loop-p-init
unfolding off_diagonal
loop-p-init c = search kit

pub loop-p-preserved : goal.loop-p-preserved
unfolding off_diagonal
loop-p-preserved c = search kit

pub returns : goal.returns
unfolding off_diagonal
returns c = search kit
