use Rattle.folds.specs.Kit.{arith, pick}
use borrow.Author.Tests.{lt-ltb, le-ltb}
use Rattle.slack_rows.specs.SlackRows.{keeps}
use Rattle.slack_rows.proofs.keeps.Goals as goal

pub returns-then-j-first : goal.returns-then-j-first
unfolding keeps pick
returns-then-j-first c = rw (lt-ltb _ _ c.if-j-first.true)

pub any_slack_column-requires : goal.any_slack_column-requires
unfolding keeps pick
any_slack_column-requires c =
    let rows = c.requires.1 in
    (λ t h. let row = rows.row t h in (row.from, omega (arith, row.below, rows.few)), rows.columns)

pub returns-then-any_slack_column : goal.returns-then-any_slack_column
unfolding keeps pick
returns-then-any_slack_column c = rw (le-ltb _ _ c.if-j-first.false, ← c.any_slack_column.ensures, c.if-any_slack_column.true)

pub returns : goal.returns
unfolding keeps pick
returns c = rw (le-ltb _ _ c.if-j-first.false, ← c.any_slack_column.ensures, c.if-any_slack_column.false) c.any_entry.ensures
