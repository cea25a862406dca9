use Rattle.folds.specs.Kit.{sym, arith}
use lib.Seq.{length-take-le}
use Rattle.folds.specs.Tab.{taken-over}
use Rattle.vector.specs.Laws.{length-add, taken_less}
use Rattle.matrix.specs.Laws.{length-mul_vec}
use Rattle.scaled.specs.Scaled.{stationarity}
use Rattle.scaled.proofs.stationarity.Goals as goal
use Rattle.scaled.proofs.stationarity.Goals.{After-mul_vec-2}

pub slice_bounds-add-end : goal.slice_bounds-add-end
slice_bounds-add-end c = sym (length-take-le _ _ (omega arith))

pub slice_bounds-add-end-2 : goal.slice_bounds-add-end-2
slice_bounds-add-end-2 c = sym (length-take-le _ _ (omega arith))

pub slice_bounds-scaled_norm-end : goal.slice_bounds-scaled_norm-end
slice_bounds-scaled_norm-end c = sym (length-take-le _ _ (omega arith))

pub returns : goal.returns
unfolding stationarity
returns c =
    rw (
      c.scaled_norm.ensures,
      taken_less _ _ _ _ (length-add _ _ _) c.add.ensures c.sub_from.ensures,
      taken-over _ _ (length-mul_vec _ _ _ _) c.mul_vec.ensures,
      taken-over _ _ (length-mul_vec _ _ _ _) c.mul_vec-2.ensures,
    )

pub scaled_norm-requires : goal.scaled_norm-requires
scaled_norm-requires c = omega (arith, slice_bounds-scaled_norm-end c)
