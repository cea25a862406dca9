use Rattle.folds.specs.Kit.{pick}
use Rattle.householder.specs.Householder.{opposite}
use Rattle.householder.proofs.opposite.Goals as goal

pub returns-then-x : goal.returns-then-x
unfolding opposite pick
returns-then-x c = rw c.if-x.true

pub returns-else-x : goal.returns-else-x
unfolding opposite pick
returns-else-x c = rw c.if-x.false
