use Rattle.folds.specs.Kit.{arith}
use Rattle.minimum.specs.Laws.{ends-optimal, ends-failed}
use Rattle.minimum.proofs.answered.Goals as goal

pub overflow_add-result : goal.overflow_add-result
overflow_add-result c = omega (arith, c.requires)

pub returns-in-More : goal.returns-in-More
returns-in-More c = c.in-More.is

pub returns-in-Optimal : goal.returns-in-Optimal
returns-in-Optimal c = ends-optimal _ _ c.in-Optimal.is

pub returns-in-Failed : goal.returns-in-Failed
returns-in-Failed c = ends-failed _ _ c.in-Failed.is
