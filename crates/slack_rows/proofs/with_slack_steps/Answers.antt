use Rattle.std.proofs.Common.{arith, rules}
use Rattle.vector.specs.Laws.{over_by}
use Rattle.slack_rows.specs.SlackRows.{with_slack_steps}
use Rattle.slack_rows.proofs.with_slack_steps.Goals as goal

pub returns : goal.returns
unfolding with_slack_steps
returns c =
    let w = c.write_each.ensures in over_by _ _ _ _ (omega arith) w.length (λ k h. let e = w.written k h in search rules) w.kept
