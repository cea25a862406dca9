use Rattle.folds.specs.Kit.{arith}
use Rattle.format.specs.Equations.{u32_at_by}
use Rattle.numbers.proofs.u32_at.Goals as goal

pub returns : goal.returns
returns c = (u32_at_by _ _ (rw (c.u16_at.ensures.0, c.u16_at-2.ensures.0)), omega arith)
