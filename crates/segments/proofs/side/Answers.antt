use Rattle.folds.specs.Kit.{pick}
use Rattle.segments.specs.Segments.{side}
use Rattle.segments.proofs.side.Goals as goal

pub returns-then-at-lower : goal.returns-then-at-lower
unfolding side pick
returns-then-at-lower c = rw (c.if-slope.true, c.if-at-lower.true)

pub returns-then-slope : goal.returns-then-slope
unfolding side pick
returns-then-slope c = rw (c.if-slope.true, c.if-at-lower.false)

pub returns : goal.returns
unfolding side pick
returns c = rw c.if-slope.false
