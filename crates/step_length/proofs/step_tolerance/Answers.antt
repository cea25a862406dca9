use Rattle.step_length.specs.StepLength.{step_tolerance}
use Rattle.step_length.proofs.step_tolerance.Goals as goal

pub returns : goal.returns
unfolding step_tolerance
returns c = rw (c.max.ensures, c.amax-2.ensures, c.amax.ensures)
