use Rattle.folds.specs.Kit.{arith, fold_call, kit}
use Rattle.folds.specs.Best.{best_of, first_least}
use Rattle.step_length.specs.StepLength.{ratio_test}
use Rattle.step_length.proofs.ratio_test.Goals as goal

pub loop-k-preserved : goal.loop-k-preserved
unfolding ratio_test first_least best_of
loop-k-preserved c =
    let at = c.loop-k in
    (omega arith, fold_call _ _ _ at.invariant.1 (rw (c.min_by-best.ensures, c.end_reached-end.ensures)))

pub returns : goal.returns
unfolding ratio_test first_least best_of
returns c = rw (← c.amax-tolerance.ensures) (search kit)

pub loop-k-init : goal.loop-k-init
unfolding ratio_test first_least best_of
loop-k-init c = search kit
