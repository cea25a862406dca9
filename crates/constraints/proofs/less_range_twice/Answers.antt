use Rattle.folds.specs.Kit.{arith, fold_call, kit}
use Rattle.constraints.proofs.less_range_twice.Goals as goal

pub loop-preserved : goal.loop-preserved
loop-preserved c =
    let inv = c.loop.invariant in
    (omega arith, omega arith, omega arith, omega arith, fold_call _ _ _ inv.4 c.less_range.ensures)

pub loop-init : goal.loop-init
loop-init c = search kit
