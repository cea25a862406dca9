use Rattle.folds.specs.Kit.{sym, arith}
use lib.Seq.{length-take-le}
use Rattle.folds.specs.Tab.{taken-over}
use Rattle.vector.specs.Laws.{length-copy}
use Rattle.triangular.specs.Regular.{lower-taken}
use Rattle.range_space.proofs.lower.Goals as goal

pub slice_bounds-solve_lower_triangular-end-2 : goal.slice_bounds-solve_lower_triangular-end-2
slice_bounds-solve_lower_triangular-end-2 c = sym (length-take-le _ _ (omega arith))

pub solve_lower_triangular-requires : goal.solve_lower_triangular-requires
solve_lower_triangular-requires c = (omega arith, omega (arith, slice_bounds-solve_lower_triangular-end-2 c))

pub returns : goal.returns
returns c =
    rw (← taken-over _ _ (length-copy _ _) c.copy.ensures)
    (lower-taken _ _ c.requires.1 _ _ (length-take-le _ _ (omega arith)) c.solve_lower_triangular.ensures)
