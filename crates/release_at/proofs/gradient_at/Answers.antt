use Rattle.std.specs.Prelude.{Float}
use Rattle.std.proofs.Common.{length-take}
use Rattle.folds.specs.Kit.{sym, arith}
use Rattle.folds.specs.Tab.{taken-over}
use lib.Seq.{length-take-le}
use Rattle.matrix.specs.Laws.{length-mul_vec}
use Rattle.release_at.specs.ReleaseAt.{gradient}
use Rattle.release_at.proofs.gradient_at.Goals as goal
use Rattle.release_at.proofs.gradient_at.Goals.{After-mul_vec}

pub slice_bounds-sub-end : goal.slice_bounds-sub-end
slice_bounds-sub-end c = sym (length-take-le _ _ (omega arith))

pub returns : goal.returns
unfolding gradient
returns c =
    rw (← taken-over _ _ (length-mul_vec _ _ _ _) c.mul_vec.ensures) c.sub.ensures

pub sub-requires : goal.sub-requires
sub-requires c = (omega (arith, length-take {A = Float}), omega arith, omega arith)
