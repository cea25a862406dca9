use Rattle.folds.specs.Kit.{refl}
use Rattle.iterate.specs.Iterate.{with_board}
use Rattle.iterate.proofs.with_board.Goals as goal

pub returns : goal.returns
unfolding with_board
returns c = refl
