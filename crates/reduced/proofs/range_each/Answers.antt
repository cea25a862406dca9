use Rattle.folds.specs.Kit.{fold_call, kit}
use Rattle.reduced.specs.Reduced.{range_each}
use Rattle.reduced.proofs.range_each.Goals as goal

pub loop-j-init : goal.loop-j-init
loop-j-init c = search kit

pub loop-j-preserved : goal.loop-j-preserved
loop-j-preserved c = fold_call _ _ _ c.loop-j.invariant c.range_one.ensures

pub returns : goal.returns
unfolding range_each
returns c = search kit
