use Rattle.folds.specs.Kit.{kit}
use Rattle.rank_one.specs.RankOne.{rank_row}
use Rattle.rank_one.proofs.rank_row.Goals as goal

pub returns : goal.returns
unfolding rank_row
returns c = rw (c.put.ensures, c.get.ensures)
