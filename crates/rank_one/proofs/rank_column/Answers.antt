use Rattle.folds.specs.Kit.{kit}
use Rattle.rank_one.specs.RankOne.{rank_column}
use Rattle.rank_one.proofs.rank_column.Goals as goal

pub returns : goal.returns
unfolding rank_column
returns c = rw (← c.get-d.ensures, ← c.new_diagonal-r.ensures, ← c.put.ensures) c.rank_rows.ensures
