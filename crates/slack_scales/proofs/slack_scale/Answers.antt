use Rattle.folds.specs.Kit.{◌≡◌, ◌-◌, ◌≤◌, ap, ◌∙◌, arith, fold_call, fold_end, kit}
use Rattle.folds.specs.Fold.{fold-none}
use Rattle.units.specs.Units.{scale_or1}
use Rattle.slack_scales.specs.SlackScales.{smallest, slack_scale}
use Rattle.slack_scales.proofs.slack_scale.Goals as goal

pub loop-i-init : goal.loop-i-init
unfolding slack_scale smallest
loop-i-init c = (omega arith, c.infinity-scale.ensures ∙ fold-none _ _)

pub loop-i-preserved : goal.loop-i-preserved
unfolding slack_scale smallest
loop-i-preserved c = (omega arith, fold_call _ _ _ c.loop-i.invariant.1 c.smaller-scale.ensures)

pub returns : goal.returns
unfolding slack_scale smallest
returns c =
    let n = c.args.n in
    c.scale_or_1.ensures ∙ ap scale_or1 (fold_end c.loop-i.i n _ _ (omega arith) (omega arith) c.loop-i.invariant.1)
