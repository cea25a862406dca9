use Rattle.folds.specs.Kit.{pick}
use Rattle.scaled.specs.Scaled.{above0_or1}
use Rattle.scaled.proofs.above_0_or_1.Goals as goal

pub returns-then-s : goal.returns-then-s
unfolding above0_or1 pick
returns-then-s c = rw c.if-s.true

pub returns-else-s : goal.returns-else-s
unfolding above0_or1 pick
returns-else-s c = rw c.if-s.false
