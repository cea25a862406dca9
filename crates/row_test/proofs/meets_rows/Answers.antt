use Rattle.folds.specs.Kit.{◌≡◌, ◌-◌, ◌≤◌, true, sym, ◌∙◌, arith, rules, alls}
use Rattle.folds.specs.Fold.{all_stop, all_turn}
use Rattle.columns.specs.Laws.{length-column}
use Rattle.row_test.specs.Limits.{meets_rows}
use Rattle.row_test.proofs.meets_rows.Goals as goal

ruleset kit = (alls, rules)

pub meets_row-requires : goal.meets_row-requires
unfolding meets_rows
meets_row-requires c = (omega arith, rw (c.column.ensures, length-column) (omega arith))

pub returns-else-meets_row : goal.returns-else-meets_row
unfolding meets_rows
returns-else-meets_row c = all_stop _ _ _ c.loop-j-test.true (rw (← c.column.ensures) (sym c.meets_row.ensures ∙ c.if-meets_row.false))

pub loop-j-preserved : goal.loop-j-preserved
unfolding meets_rows
loop-j-preserved c = (
  omega arith,
  all_turn _ _ c.loop-j.invariant.1 (rw (← c.column.ensures) (sym c.meets_row.ensures ∙ c.if-meets_row.true)),
)

pub loop-j-init : goal.loop-j-init
unfolding meets_rows
loop-j-init c = search kit
