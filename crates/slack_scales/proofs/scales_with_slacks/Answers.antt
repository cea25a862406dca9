use Rattle.folds.specs.Kit.{rules}
use Rattle.vector.specs.Laws.{length-copy}
use Rattle.slack_scales.specs.Chain.{part_chain}
use Rattle.slack_scales.specs.Laws.{length-slack_scales, scales_known}
use Rattle.slack_scales.proofs.scales_with_slacks.Goals as goal

pub returns : goal.returns
returns c =
    let d = c.diagonal_scales-diagonal in
    scales_known _ _ _ _ d.result d.ensures
    (part_chain _ _ _ _ _ _ _ (length-copy _ _) (length-slack_scales _ _ _ _) c.copy.ensures c.slack_scales.ensures)
