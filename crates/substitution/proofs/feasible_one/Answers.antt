use Rattle.folds.specs.Kit.{arith, fold_call, kit, fold_end}
use Rattle.substitution.specs.Substitution.{feasible_one}
use Rattle.substitution.proofs.feasible_one.Goals as goal

pub returns : goal.returns
unfolding feasible_one
returns c =
    let at = c.loop-k.invariant in
    rw (c.get-2.ensures, fold_end _ c.args.i _ _ at.0 c.loop-k-test.false at.1)

pub loop-k-preserved : goal.loop-k-preserved
loop-k-preserved c = (omega arith, fold_call _ _ _ c.loop-k.invariant.1 (rw c.get.ensures))

pub loop-k-init : goal.loop-k-init
loop-k-init c = search kit
