use Rattle.folds.specs.Kit.{arith, fold_call, kit}
use Rattle.folds.specs.Best.{best_of, first_least}
use Rattle.step_length.specs.StepLength.{first_passed}
use Rattle.step_length.proofs.first_passed.Goals as goal

pub loop-k-preserved : goal.loop-k-preserved
unfolding first_passed first_least best_of
loop-k-preserved c =
    let at = c.loop-k in
    (omega arith, fold_call _ _ _ at.invariant.1 (rw (c.min_by-best.ensures, c.end_passed-end.ensures)))

pub returns : goal.returns
unfolding first_passed first_least best_of
returns c = search kit

pub loop-k-init : goal.loop-k-init
unfolding first_passed first_least best_of
loop-k-init c = search kit
