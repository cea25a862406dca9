use Rattle.folds.specs.Kit.{rules}
use Rattle.turnover.specs.Turnover.{reaches}
use Rattle.turnover.proofs.reaches.Goals as goal

pub returns : goal.returns
unfolding reaches
returns c = rw c.slack.ensures
