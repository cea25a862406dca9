use Rattle.folds.specs.Kit.{fold_call, kit}
use Rattle.null_part.specs.NullPart.{null_each}
use Rattle.null_part.proofs.null_each.Goals as goal

pub loop-j-init : goal.loop-j-init
loop-j-init c = search kit

pub loop-j-preserved : goal.loop-j-preserved
loop-j-preserved c = fold_call _ _ _ c.loop-j.invariant c.null_one.ensures

pub returns : goal.returns
unfolding null_each
returns c = search kit
