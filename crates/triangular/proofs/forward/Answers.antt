use Rattle.folds.specs.Kit.{arith, length-set, fold_call, kit}
use Rattle.triangular.specs.Triangular.{forward, unknown}
use Rattle.triangular.proofs.forward.Goals as goal

pub loop-i-preserved : goal.loop-i-preserved
unfolding forward unknown
loop-i-preserved c =
    let at = c.loop-i in
    (omega arith, simp length-set at.invariant.1, fold_call _ _ _ at.invariant.2 (rw (c.get.ensures, c.known-s.ensures)))

pub loop-i-init : goal.loop-i-init
unfolding forward unknown
loop-i-init c = search kit
