use Rattle.folds.specs.Kit.{◌≡◌, true, ◌-◌, ◌≤◌, length, rules, walk, out, walks, walk_call, walk_stop}
use Rattle.cholesky.specs.Cholesky.{factor_column, cholesky}
use borrow.Author.Tests.{not-true, not-false}
use mathlib.Core.Path.{ap}
use mathlib.Core.Bool.{not}
use Rattle.cholesky.proofs.cholesky.Goals as goal

ruleset kit = (walks, rules)

pub returns-then-not-factor_column : goal.returns-then-not-factor_column
unfolding cholesky
returns-then-not-factor_column c =
    let at = c.loop-j in let ok = c.factor_column.result in
    walk_stop _ _ _ _ c.loop-j-test.true at.invariant.2 (cc (not-true ok (ap not c.if-not-factor_column.true)))

pub loop-j-preserved : goal.loop-j-preserved
unfolding cholesky
loop-j-preserved c =
    let at = c.loop-j in let ok = c.factor_column.result in
    (search rules, search rules, walk_call _ _ _ at.invariant.2 (cc (not-false ok (ap not c.if-not-factor_column.false))))

pub loop-j-init : goal.loop-j-init
unfolding cholesky
loop-j-init c = search kit

pub returns : goal.returns
unfolding cholesky
returns c = search kit
