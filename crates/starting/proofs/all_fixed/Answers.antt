use Rattle.folds.specs.Kit.{over-tab, arith, kit, fold_call}
use Rattle.starting.specs.Starting.{all_fixed}
use Rattle.starting.proofs.all_fixed.Goals as goal

pub fixed-requires : goal.fixed-requires
fixed-requires c = c.requires.1 _ c.loop-i-test.true

pub loop-i-preserved : goal.loop-i-preserved
loop-i-preserved c = (omega arith, fold_call _ _ _ c.loop-i.invariant.1 (rw c.fixed.ensures))

pub returns : goal.returns
unfolding all_fixed
returns c = over-tab _ _ _ _ c.loop-i.invariant.0 c.loop-i-test.false (omega arith) c.loop-i.invariant.1

pub loop-i-init : goal.loop-i-init
loop-i-init c = search kit
