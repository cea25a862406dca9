use Rattle.folds.specs.Kit.{◌≡◌, ◌-◌, ◌≤◌, arith, fold_call, kit}
use Rattle.cholesky.specs.Cholesky.{rows_dot}
use Rattle.cholesky.proofs.rows_dot.Goals as goal

pub loop-t-preserved : goal.loop-t-preserved
unfolding rows_dot
loop-t-preserved c = (omega arith, fold_call _ _ _ c.loop-t.invariant.1 (rw (c.get.ensures, c.get-in-loop-t.ensures)))

pub loop-t-init : goal.loop-t-init
unfolding rows_dot
loop-t-init c = search kit
