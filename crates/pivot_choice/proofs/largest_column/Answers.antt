use Rattle.folds.specs.Kit.{kit}
use Rattle.folds.specs.Best.{best_of, last_largest}
use Rattle.pivot_choice.specs.PivotChoice.{largest_column}
use Rattle.pivot_choice.proofs.largest_column.Goals as goal

pub returns : goal.returns
unfolding largest_column last_largest best_of
returns c = search kit

pub loop-j-init : goal.loop-j-init
unfolding best_of
loop-j-init c = search kit

pub loop-j-preserved : goal.loop-j-preserved
unfolding best_of
loop-j-preserved c = search kit
