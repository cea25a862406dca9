use Rattle.folds.specs.Kit.{pick}
use Rattle.householder.specs.Householder.{reflector}
use Rattle.householder.proofs.reflector.Goals as goal

pub returns-then-zero_column : goal.returns-then-zero_column
unfolding reflector pick
returns-then-zero_column c = rw (← c.zero_column.ensures, c.if-zero_column.true)

pub returns : goal.returns
unfolding reflector pick
returns c = rw (← c.zero_column.ensures, c.if-zero_column.false, ← c.norm-r.ensures, ← c.opposite.ensures)
