use Rattle.folds.specs.Kit.{arith, fold_call, kit}
use Rattle.matrix.specs.Matrix.{trace}
use Rattle.matrix.proofs.trace.Goals as goal

pub loop-i-preserved : goal.loop-i-preserved
unfolding trace
loop-i-preserved c = (omega arith, fold_call _ _ _ c.loop-i.invariant.1 (rw c.get-s.ensures))

pub loop-i-init : goal.loop-i-init
unfolding trace
loop-i-init c = search kit

pub returns : goal.returns
unfolding trace
returns c = search kit
