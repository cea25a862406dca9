use Rattle.folds.specs.Kit.{rules}
use Rattle.turnover.specs.Turnover.{within}
use Rattle.turnover.proofs.within.Goals as goal

pub returns : goal.returns
unfolding within
returns c = rw c.slack.ensures
