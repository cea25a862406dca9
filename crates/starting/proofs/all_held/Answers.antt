use Rattle.folds.specs.Kit.{over-tab, arith, kit, fold_call}
use Rattle.starting.specs.Starting.{all_held}
use Rattle.starting.proofs.all_held.Goals as goal

pub held-requires : goal.held-requires
held-requires c = c.requires.2 _ c.loop-i-test.true

pub loop-i-preserved : goal.loop-i-preserved
loop-i-preserved c = (omega arith, fold_call _ _ _ c.loop-i.invariant.1 (rw c.held.ensures))

pub returns : goal.returns
unfolding all_held
returns c = over-tab _ _ _ _ c.loop-i.invariant.0 c.loop-i-test.false (omega arith) c.loop-i.invariant.1

pub loop-i-init : goal.loop-i-init
loop-i-init c = search kit
