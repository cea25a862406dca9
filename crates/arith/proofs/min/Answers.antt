use Rattle.folds.specs.Kit.{pick}
use Rattle.arith.specs.Scalar.{min}
use Rattle.arith.proofs.min.Goals as goal

pub returns-then-is_nan : goal.returns-then-is_nan
unfolding min pick
returns-then-is_nan c = rw (← c.is_nan.ensures.value, c.if-is_nan.true)

pub returns-then-b-a : goal.returns-then-b-a
unfolding min pick
returns-then-b-a c = rw (← c.is_nan.ensures.value, c.if-is_nan.false, c.if-b-a.true)

pub returns : goal.returns
unfolding min pick
returns c = rw (← c.is_nan.ensures.value, c.if-is_nan.false, c.if-b-a.false)
