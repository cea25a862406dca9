use Rattle.folds.specs.Kit.{kit}
use Rattle.rank_one.specs.RankOne.{new_diagonal}
use Rattle.rank_one.proofs.new_diagonal.Goals as goal

pub returns : goal.returns
unfolding new_diagonal
returns c = rw (c.sqrt.ensures, c.get-d.ensures)
