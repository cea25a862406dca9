use Rattle.folds.specs.Kit.{◌≡◌, true, ◌-◌, ◌≤◌, rules, all, alls}
use lib.Ieee.{le}
use Rattle.arith.specs.Float.{fmul}
use Rattle.columns.specs.Columns.{cell}
use Rattle.folds.specs.Fold.{all_stop, all_turn}
use borrow.Author.Tests.{not-true, not-false}
use Rattle.cholesky.specs.Cholesky.{positive_definite, pivot_floor}
use mathlib.Core.Path.{ap}
use mathlib.Core.Bool.{not}
use Rattle.cholesky.proofs.positive_definite.Goals as goal

ruleset kit = (alls, rules)

pub returns-then-not-p : goal.returns-then-not-p
unfolding positive_definite
returns-then-not-p c = all_stop _ _ _ c.loop-i-test.true (rw (← c.get-p.ensures) (not-true _ (ap not c.if-not-p.true)))

pub loop-i-preserved : goal.loop-i-preserved
unfolding positive_definite
loop-i-preserved c = (search kit, all_turn _ _ c.loop-i.invariant.1 (rw (← c.get-p.ensures) (not-false _ (ap not c.if-not-p.false))))

pub loop-i-init : goal.loop-i-init
unfolding positive_definite
loop-i-init c = search kit

pub returns : goal.returns
unfolding positive_definite
returns c = search kit
