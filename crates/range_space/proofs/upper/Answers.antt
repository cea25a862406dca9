use Rattle.folds.specs.Kit.{sym, arith, rules}
use lib.Seq.{length-take-le}
use Rattle.folds.specs.Tab.{taken-over}
use Rattle.vector.specs.Laws.{length-sub}
use Rattle.matrix.specs.Laws.{length-mul_vec}
use Rattle.triangular.specs.Regular.{tr_lower-taken}
use Rattle.range_space.proofs.upper.Goals as goal

pub slice_bounds-sub-end : goal.slice_bounds-sub-end
slice_bounds-sub-end c = sym (length-take-le _ _ (search rules))

pub slice_bounds-tr_solve_lower_triangular-end-2 : goal.slice_bounds-tr_solve_lower_triangular-end-2
slice_bounds-tr_solve_lower_triangular-end-2 c = sym (length-take-le _ _ (omega arith))

pub tr_solve_lower_triangular-requires : goal.tr_solve_lower_triangular-requires
tr_solve_lower_triangular-requires c = (omega arith, omega (arith, slice_bounds-tr_solve_lower_triangular-end-2 c))

pub returns : goal.returns
returns c =
    rw (← taken-over _ _ (length-mul_vec _ _ _ _) c.mul_vec.ensures, ← taken-over _ _ (length-sub _ _ _) c.sub.ensures)
    (tr_lower-taken _ _ c.requires.2 _ _ (length-take-le _ _ (omega arith)) c.tr_solve_lower_triangular.ensures)
