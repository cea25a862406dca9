use Rattle.folds.specs.Kit.{kit}
use Rattle.cholesky.specs.Cholesky.{under_root}
use Rattle.cholesky.proofs.under_root.Goals as goal

pub returns : goal.returns
unfolding under_root
returns c = cc
