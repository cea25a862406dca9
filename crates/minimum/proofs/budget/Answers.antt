use Rattle.folds.specs.Kit.{refl, arith}
use Rattle.minimum.proofs.budget.Goals as goal

pub returns : goal.returns
returns c = refl

pub overflow_mul-result : goal.overflow_mul-result
overflow_mul-result c = omega (arith, c.requires)

pub overflow_add-result : goal.overflow_add-result
overflow_add-result c = omega (arith, c.requires)
