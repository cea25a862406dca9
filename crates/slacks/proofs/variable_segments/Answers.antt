use Rattle.folds.specs.Kit.{rules}
use Rattle.slacks.specs.Slacks.{variable_segments}
use Rattle.slacks.proofs.variable_segments.Goals as goal

pub returns-clause-value : goal.returns-clause-value
unfolding variable_segments
returns-clause-value c = search rules
