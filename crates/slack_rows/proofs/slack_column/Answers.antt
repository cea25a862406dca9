use Rattle.folds.specs.Kit.{kit}
use Rattle.slack_rows.specs.SlackRows.{slack_column}
use Rattle.slack_rows.proofs.slack_column.Goals as goal

pub returns : goal.returns
unfolding slack_column
returns c = search kit
