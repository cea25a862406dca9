use Rattle.folds.specs.Kit.{arith, fold_call, kit}
use Rattle.pivoting.specs.Pivoting.{remove_all}
use Rattle.pivoting.proofs.remove_all.Goals as goal

pub loop-l-preserved : goal.loop-l-preserved
loop-l-preserved c =
    let inv = c.loop-l.invariant in
    (omega arith, omega arith, omega arith, fold_call _ _ _ inv.3 c.remove_one.ensures)

pub loop-l-init : goal.loop-l-init
loop-l-init c = search kit

pub returns : goal.returns
unfolding remove_all
returns c = search kit
