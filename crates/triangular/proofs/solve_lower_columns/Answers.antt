use Rattle.folds.specs.Kit.{rules, walks, walk_call, walk_stop}
use Rattle.triangular.specs.Triangular.{solve_lower_columns}
use borrow.Author.Tests.{not-true, not-false}
use mathlib.Core.Path.{ap}
use mathlib.Core.Bool.{not}
use Rattle.triangular.proofs.solve_lower_columns.Goals as goal

ruleset kit = (walks, rules)

pub returns-then-not-solve_column : goal.returns-then-not-solve_column
unfolding solve_lower_columns
returns-then-not-solve_column c =
    let at = c.loop-j in let ok = c.solve_column.result in
    walk_stop _ _ _ _ c.loop-j-test.true at.invariant.2 (cc (not-true ok (ap not c.if-not-solve_column.true)))

pub loop-j-preserved : goal.loop-j-preserved
unfolding solve_lower_columns
loop-j-preserved c =
    let at = c.loop-j in let ok = c.solve_column.result in
    (search rules, search rules, walk_call _ _ _ at.invariant.2 (cc (not-false ok (ap not c.if-not-solve_column.false))))

pub loop-j-init : goal.loop-j-init
unfolding solve_lower_columns
loop-j-init c = search kit

pub returns : goal.returns
unfolding solve_lower_columns
returns c = search kit
