use Rattle.folds.specs.Cell.{small-fits}
use Rattle.slack_rows.specs.SlackRows.{step_noise}
use Rattle.slack_rows.proofs.step_noise.Goals as goal

pub overflow_mul-count : goal.overflow_mul-count
unfolding step_noise
overflow_mul-count c = let p = c.requires in small-fits p.0 p.1

pub returns : goal.returns
unfolding step_noise
returns c = rw (c.amax-3.ensures, c.amax-2.ensures, c.amax.ensures)
