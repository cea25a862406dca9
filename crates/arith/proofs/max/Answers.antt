use Rattle.folds.specs.Kit.{pick}
use Rattle.arith.specs.Scalar.{max}
use Rattle.arith.proofs.max.Goals as goal

pub returns-then-is_nan : goal.returns-then-is_nan
unfolding max pick
returns-then-is_nan c = rw (← c.is_nan.ensures.value, c.if-is_nan.true)

pub returns-then-a-b : goal.returns-then-a-b
unfolding max pick
returns-then-a-b c = rw (← c.is_nan.ensures.value, c.if-is_nan.false, c.if-a-b.true)

pub returns : goal.returns
unfolding max pick
returns c = rw (← c.is_nan.ensures.value, c.if-is_nan.false, c.if-a-b.false)
