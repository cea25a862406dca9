use Rattle.std.specs.Prelude.{Float}
use Rattle.std.proofs.Common.{length-take}
use Rattle.folds.specs.Kit.{sym, ◌∙◌, arith, rules}
use lib.Seq.{length-take-le}
use Rattle.folds.specs.Tab.{taken-over}
use Rattle.vector.specs.Laws.{length-sub}
use Rattle.matrix.specs.Laws.{length-tr_mul_vec}
use Rattle.right_side.specs.RightSide.{residuals}
use Rattle.right_side.proofs.residuals_at.Goals as goal
use Rattle.right_side.proofs.residuals_at.Goals.{After-tr_mul_vec}

pub slice_bounds-sub-end : goal.slice_bounds-sub-end
slice_bounds-sub-end c = sym (length-take-le _ _ (search rules))

pub returns : goal.returns
unfolding residuals
returns c =
    taken-over _ _ (length-sub _ _ _) c.sub.ensures ∙ rw (taken-over _ _ (length-tr_mul_vec _ _ _ _) c.tr_mul_vec.ensures)

pub sub-requires : goal.sub-requires
sub-requires c =
    (omega (arith, length-take {A = Float}), omega (arith, length-take {A = Float}), omega (arith, length-take {A = Float}))
