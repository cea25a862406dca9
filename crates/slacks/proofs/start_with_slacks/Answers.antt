use Rattle.vector.specs.Laws.{length-copy}
use Rattle.matrix.specs.Laws.{length-tr_mul_vec}
use Rattle.slack_scales.specs.Chain.{part_chain}
use Rattle.slacks.specs.Slacks.{start_with_slacks}
use Rattle.slacks.proofs.start_with_slacks.Goals as goal

pub returns : goal.returns
unfolding start_with_slacks
returns c =
    part_chain _ _ _ _ _ _ _ (length-copy _ _) (length-tr_mul_vec _ _ _ _) c.copy.ensures
    c.tr_mul_vec.ensures
