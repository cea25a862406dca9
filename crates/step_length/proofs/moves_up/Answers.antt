use Rattle.folds.specs.Kit.{both}
use Rattle.step_length.specs.StepLength.{moves_up}
use Rattle.step_length.proofs.moves_up.Goals as goal

pub returns-then-d-tolerance : goal.returns-then-d-tolerance
unfolding moves_up both
returns-then-d-tolerance c = rw c.if-d-tolerance.true c.is_finite.ensures

pub returns-else-d-tolerance : goal.returns-else-d-tolerance
unfolding moves_up both
returns-else-d-tolerance c = rw c.if-d-tolerance.false
