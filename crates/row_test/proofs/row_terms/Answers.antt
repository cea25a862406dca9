use Rattle.folds.specs.Kit.{◌≡◌, ◌-◌, ◌≤◌, arith, fold_call, kit}
use Rattle.row_test.specs.Limits.{row_terms}
use Rattle.row_test.proofs.row_terms.Goals as goal

pub loop-i-preserved : goal.loop-i-preserved
unfolding row_terms
loop-i-preserved c = (omega arith, fold_call _ _ _ c.loop-i.invariant.1 (rw c.abs-s.ensures))

pub loop-i-init : goal.loop-i-init
unfolding row_terms
loop-i-init c = search kit
