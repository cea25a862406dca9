use Rattle.folds.specs.Kit.{kit}
use Rattle.householder.specs.Householder.{q_tr_mul}
use Rattle.householder.proofs.q_tr_mul.Goals as goal

pub loop-k-init : goal.loop-k-init
unfolding q_tr_mul
loop-k-init c = search kit

pub loop-k-preserved : goal.loop-k-preserved
unfolding q_tr_mul
loop-k-preserved c = search kit

pub returns : goal.returns
unfolding q_tr_mul
returns c = search kit
