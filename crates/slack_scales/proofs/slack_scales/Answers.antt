use Rattle.folds.specs.Kit.{◌≡◌, ◌-◌, ◌≤◌, arith, length, length-set, set, fold, fold_call, over-kit}
use Rattle.columns.specs.Columns.{column}
use Rattle.columns.specs.Laws.{length-column}
use Rattle.slack_scales.specs.SlackScales.{slack_scale, slack_scales}
use Rattle.slack_scales.proofs.slack_scales.Goals as goal

pub slack_scale-requires : goal.slack_scale-requires
unfolding slack_scales
slack_scale-requires c = (omega arith, rw (c.column.ensures, length-column) (omega arith))

pub loop-j-preserved : goal.loop-j-preserved
unfolding slack_scales
loop-j-preserved c =
    let at = c.loop-j in (
      omega arith,
      simp length-set at.invariant.1,
      fold_call _ _ _ at.invariant.2 (rw (c.slack_scale.ensures, c.column.ensures)),
    )

pub loop-j-init : goal.loop-j-init
unfolding slack_scales
loop-j-init c = search over-kit

pub returns : goal.returns
unfolding slack_scales
returns c = search over-kit
