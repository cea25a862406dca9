use Rattle.folds.specs.Tab.{taken-over}
use Rattle.vector.specs.Laws.{length-div}
use Rattle.range_space.specs.Factored.{scaled_multipliers, with_x, with_h, solve_once}
use Rattle.range_space.proofs.solve.Goals as goal

pub returns : goal.returns
unfolding solve_once with_h with_x scaled_multipliers
returns c =
    rw (
      ← c.lower.ensures,
      ← c.scaled_multipliers.ensures,
      ← c.upper.ensures,
      taken-over _ _ (length-div _ _ _) c.div.ensures,
    )
