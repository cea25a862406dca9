use Rattle.folds.specs.Kit.{◌≡◌, ◌-◌, ◌≤◌, arith, length, length-set, set, fold, fold_call, over-kit}
use Rattle.columns.specs.Columns.{column}
use Rattle.columns.specs.Laws.{length-column}
use Rattle.slack_scales.specs.SlackScales.{slack_scale, slack_scales}
use Rattle.slack_scales.proofs.slack_scales.Given as goal

abbrev pub invariant-loop-j : goal.invariant-loop-j
invariant-loop-j l = (l.j ≤ l.r) × (length l.y ≡ length l.initial.y) × (l.y ≡ fold l.j (λ t l'. set l' t (slack_scale l.n l.scales (column l.n l.a t))) l.initial.y)
