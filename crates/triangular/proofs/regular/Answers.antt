use Rattle.folds.specs.Kit.{rules, alls}
use Rattle.folds.specs.Fold.{all_stop, all_turn}
use Rattle.triangular.specs.Triangular.{regular}
use Rattle.triangular.proofs.regular.Goals as goal

ruleset kit = (alls, rules)

pub returns-then-get : goal.returns-then-get
unfolding regular
returns-then-get c = all_stop _ _ _ c.loop-i-test.true (rw (← c.get.ensures, c.if-get.true))

pub loop-i-preserved : goal.loop-i-preserved
unfolding regular
loop-i-preserved c = (search kit, all_turn _ _ c.loop-i.invariant.1 (rw (← c.get.ensures, c.if-get.false)))

pub loop-i-init : goal.loop-i-init
unfolding regular
loop-i-init c = search kit

pub returns : goal.returns
unfolding regular
returns c = search kit
