use Rattle.folds.specs.Kit.{arith, length-set, fold_call, kit}
use Rattle.householder.specs.Householder.{qr, qr_step, mark}
use Rattle.householder.proofs.qr.Goals as goal

pub loop-k-preserved : goal.loop-k-preserved
unfolding qr qr_step mark
loop-k-preserved c =
    let at = c.loop-k.invariant in
    (omega arith, omega arith, simp length-set at.2, fold_call _ _ _ at.3 (rw (← c.qr_column.ensures)))

pub loop-k-init : goal.loop-k-init
unfolding qr qr_step mark
loop-k-init c = search kit

pub returns : goal.returns
unfolding qr qr_step mark
returns c = search kit
