use Rattle.folds.specs.Kit.{◌∙◌, rules}
use Rattle.turnover.specs.Turnover.{slack}
use Rattle.turnover.proofs.slack.Goals as goal

pub returns : goal.returns
unfolding slack
returns c = c.sum_rounding.ensures ∙ rw (c.max.ensures, c.amax.ensures)
