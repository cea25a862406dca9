use Rattle.folds.specs.Kit.{arith, somes, rules}
use Rattle.folds.specs.Fold.{some_stop, some_turn}
use borrow.Author.Tests.{eq-eqb, ne_eqb}
use Rattle.slack_rows.specs.SlackRows.{any_slack_column}
use Rattle.slack_rows.proofs.any_slack_column.Goals as goal

ruleset kit = (somes, rules)

pub slack_column-requires : goal.slack_column-requires
unfolding any_slack_column
slack_column-requires c =
    let p = c.requires in
    let h = p.0 c.loop-i.i-index c.loop-i-test.true in (h.0, h.1, p.1)

pub returns-then-slack_column-j : goal.returns-then-slack_column-j
unfolding any_slack_column
returns-then-slack_column-j c =
    some_stop _ _ _ c.loop-i-test.true
    (rw (← c.slack_column.ensures) (eq-eqb _ _ c.if-slack_column-j.true))

pub loop-i-preserved : goal.loop-i-preserved
unfolding any_slack_column
loop-i-preserved c = (
  omega arith,
  some_turn _ _ c.loop-i.invariant.1 (rw (← c.slack_column.ensures) (ne_eqb _ _ c.if-slack_column-j.false)),
)

pub loop-i-init : goal.loop-i-init
unfolding any_slack_column
loop-i-init c = search kit

pub returns : goal.returns
unfolding any_slack_column
returns c = search kit
