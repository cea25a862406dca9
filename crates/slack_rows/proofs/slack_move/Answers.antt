use Rattle.folds.specs.Kit.{◌<◌, arith}
use Rattle.slack_rows.specs.SlackRows.{slack_move}
use Rattle.slack_rows.proofs.slack_move.Goals as goal
use Rattle.slack_rows.proofs.slack_move.Goals.{After-slack_column-j}

column : (c : After-slack_column-j) → c.slack_column-j.result < c.args.m
column c = rw c.slack_column-j.ensures c.requires.5.column

pub offset_bounds-residuals-j : goal.offset_bounds-residuals-j
unfolding slack_move
offset_bounds-residuals-j c = omega (arith, column c)

pub bounds-residuals-j : goal.bounds-residuals-j
unfolding slack_move
bounds-residuals-j c = omega (arith, column (goal.at.bounds-residuals-j c).After-slack_column-j)

pub others-requires : goal.others-requires
unfolding slack_move
others-requires c = let p = c.requires in (p.0, p.1, column (goal.at.others-requires c).After-slack_column-j)

pub get-requires : goal.get-requires
unfolding slack_move
get-requires c =
    let p = c.requires in
    (p.0.entries, p.5.below, column (goal.at.get-requires c).After-slack_column-j)

pub returns : goal.returns
unfolding slack_move
returns c = rw (c.others.ensures, c.get.ensures, c.slack_column-j.ensures)
