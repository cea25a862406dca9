use Rattle.folds.specs.Kit.{rules}
use Rattle.slacks.specs.Slacks.{slack_segments}
use Rattle.slacks.proofs.slack_segments.Goals as goal

pub returns-clause-value : goal.returns-clause-value
unfolding slack_segments
returns-clause-value c = search rules
