use Rattle.folds.specs.Kit.{ap}
use Rattle.rank_one.specs.RankOne.{factor_of}
use Rattle.update.specs.Update.{leave}
use Rattle.update.proofs.leave.Goals as goal

pub returns : goal.returns
unfolding leave
returns c = rw (← c.close.ensures, ← c.removed.ensures) (ap factor_of c.rank_one.ensures)
