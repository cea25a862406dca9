use Rattle.folds.specs.Kit.{◌≡◌, ◌-◌, ◌≤◌, ap, ◌∙◌, arith, fold_call, fold_end, kit}
use Rattle.folds.specs.Fold.{fold-none}
use Rattle.units.specs.Units.{scale_or1}
use Rattle.slack_scales.specs.SlackScales.{smallest, slack_scale}
use Rattle.slack_scales.proofs.slack_scale.Given as goal

abbrev pub invariant-loop-i : goal.invariant-loop-i
invariant-loop-i l = (l.i ≤ l.n) × (l.scale ≡ smallest l.i l.scales l.a)
