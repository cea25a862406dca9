use Rattle.folds.specs.Kit.{sym, arith}
use lib.Seq.{length-take-le}
use Rattle.folds.specs.Tab.{taken-over}
use Rattle.vector.specs.Laws.{length-div, taken_less}
use Rattle.matrix.specs.Laws.{length-tr_mul_vec}
use Rattle.triangular.specs.Regular.{solve-taken}
use Rattle.range_space.proofs.scaled_multipliers.Goals as goal

pub slice_bounds-sub_from-end : goal.slice_bounds-sub_from-end
slice_bounds-sub_from-end c = sym (length-take-le _ _ (omega arith))

pub slice_bounds-solve-end-2 : goal.slice_bounds-solve-end-2
slice_bounds-solve-end-2 c = sym (length-take-le _ _ (omega arith))

pub sub_from-requires : goal.sub_from-requires
sub_from-requires c = (omega arith, omega (arith, slice_bounds-sub_from-end c))

pub solve-requires : goal.solve-requires
solve-requires c = (omega arith, omega (arith, slice_bounds-solve-end-2 c))

pub returns : goal.returns
returns c =
    rw (
      ← taken-over _ _ (length-div _ _ _) c.div.ensures,
      ← taken_less _ _ _ _ (length-tr_mul_vec _ _ _ _) c.tr_mul_vec.ensures c.sub_from.ensures,
    )
    (solve-taken _ _ _ _ (length-take-le _ _ (omega arith)) c.solve.ensures)
