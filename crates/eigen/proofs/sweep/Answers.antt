use Rattle.folds.specs.Kit.{◌-◌, arith, fold_call, kit}
use Rattle.eigen.specs.Eigen.{sweep_row, sweep}
use Rattle.eigen.proofs.sweep.Goals as goal

pub loop-p-preserved : goal.loop-p-preserved
unfolding sweep
loop-p-preserved c =
    let at = c.loop-p.invariant in
    (omega arith, omega arith, omega arith, fold_call _ _ _ at.3 c.sweep_row.ensures)

pub loop-p-init : goal.loop-p-init
unfolding sweep
loop-p-init c = search kit

pub returns : goal.returns
unfolding sweep
returns c = search kit
