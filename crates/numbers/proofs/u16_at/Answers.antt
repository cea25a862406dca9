use Rattle.folds.specs.Kit.{arith}
use Rattle.format.specs.Equations.{u16_at_by}
use Rattle.numbers.proofs.u16_at.Goals as goal

pub returns : goal.returns
returns c = (u16_at_by _ _ (rw (c.byte_at.ensures.0, c.byte_at-2.ensures.0)), omega arith)
