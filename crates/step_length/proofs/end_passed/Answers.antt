use Rattle.folds.specs.Kit.{pick}
use Rattle.step_length.specs.StepLength.{end_passed}
use Rattle.step_length.proofs.end_passed.Goals as goal

pub returns-then-target-lower : goal.returns-then-target-lower
unfolding end_passed pick
returns-then-target-lower c = rw c.if-target-lower.true

pub returns-then-target-upper : goal.returns-then-target-upper
unfolding end_passed pick
returns-then-target-upper c = rw (c.if-target-lower.false, c.if-target-upper.true)

pub returns : goal.returns
unfolding end_passed pick
returns c = rw (c.if-target-lower.false, c.if-target-upper.false)
