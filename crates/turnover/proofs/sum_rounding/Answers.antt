use Rattle.folds.specs.Kit.{rules}
use Rattle.turnover.specs.Turnover.{sum_rounding}
use Rattle.turnover.proofs.sum_rounding.Goals as goal

pub returns : goal.returns
unfolding sum_rounding
returns c = rw c.from_usize.ensures
