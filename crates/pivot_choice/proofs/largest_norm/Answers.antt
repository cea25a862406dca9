use Rattle.folds.specs.Kit.{arith, fold_call, kit}
use Rattle.pivot_choice.specs.PivotChoice.{largest_norm}
use Rattle.pivot_choice.proofs.largest_norm.Goals as goal

pub loop-j-preserved : goal.loop-j-preserved
loop-j-preserved c =
    (omega arith, fold_call _ _ _ c.loop-j.invariant.1 (rw (c.max-s.ensures, c.column_norm.ensures)))

pub loop-j-init : goal.loop-j-init
loop-j-init c = search kit

pub returns : goal.returns
unfolding largest_norm
returns c = search kit
