use Rattle.folds.specs.Kit.{◌≡◌, false, ◌≤◌, length, some}
use lib.Dec.{eqb}
use Rattle.matrix.specs.Matrix.{index}
use Rattle.slack_rows.specs.SlackRows.{slack_column}
use Rattle.slack_rows.proofs.any_slack_column.Given as goal

abbrev pub invariant-loop-i : goal.invariant-loop-i
invariant-loop-i l = (l.i-index ≤ length l.slacks) × (false ≡ some l.i-index (λ k. eqb (slack_column (index l.slacks k) l.originals l.first) l.j))
