use Rattle.folds.specs.Kit.{arith, pick}
use borrow.Author.Tests.{lt-ltb, le-ltb}
use Rattle.slack_rows.specs.SlackRows.{step_entry}
use Rattle.slack_rows.proofs.step_entry.Goals as goal

pub returns-then-k-count : goal.returns-then-k-count
unfolding step_entry pick
returns-then-k-count c = rw (lt-ltb _ _ c.if-k-count.true)

pub slack_move-requires : goal.slack_move-requires
unfolding step_entry pick
slack_move-requires c =
    let p = c.requires in
    (p.0, p.2, p.3, p.1.few, p.1.columns, p.1.row _ (omega arith))

pub returns : goal.returns
unfolding step_entry pick
returns c = rw (le-ltb _ _ c.if-k-count.false) c.slack_move.ensures
