use Rattle.folds.specs.Kit.{pick}
use Rattle.arith.specs.Scalar.{clamp}
use Rattle.arith.proofs.clamp.Goals as goal

pub returns-then-x-min : goal.returns-then-x-min
unfolding clamp pick
returns-then-x-min c = rw c.if-x-min.true

pub returns-then-x-max : goal.returns-then-x-max
unfolding clamp pick
returns-then-x-max c = rw (c.if-x-min.false, c.if-x-max.true)

pub returns : goal.returns
unfolding clamp pick
returns c = rw (c.if-x-min.false, c.if-x-max.false)
