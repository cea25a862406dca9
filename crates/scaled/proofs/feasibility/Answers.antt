use Rattle.vector.specs.Laws.{taken_less}
use Rattle.folds.specs.Kit.{sym, arith}
use lib.Seq.{length-take-le}
use Rattle.matrix.specs.Laws.{length-tr_mul_vec}
use Rattle.scaled.specs.Scaled.{feasibility}
use Rattle.scaled.proofs.feasibility.Goals as goal

pub slice_bounds-scaled_norm-end : goal.slice_bounds-scaled_norm-end
slice_bounds-scaled_norm-end c = sym (length-take-le _ _ (omega arith))

pub returns : goal.returns
unfolding feasibility
returns c =
    rw (c.scaled_norm.ensures, taken_less _ _ _ _ (length-tr_mul_vec _ _ _ _) c.tr_mul_vec.ensures c.sub_from.ensures)

pub scaled_norm-requires : goal.scaled_norm-requires
scaled_norm-requires c = omega (arith, slice_bounds-scaled_norm-end c)
