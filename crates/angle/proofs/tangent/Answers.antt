use Rattle.folds.specs.Kit.{pick, kit}
use Rattle.angle.specs.Angle.{tangent}
use Rattle.angle.proofs.tangent.Goals as goal

pub returns-then-size : goal.returns-then-size
unfolding tangent pick
returns-then-size c = rw (← c.abs-size.ensures, c.if-size.true)

pub returns : goal.returns
unfolding tangent pick
returns c = rw (← c.abs-size.ensures, c.if-size.false, ← c.signum.ensures, ← c.sqrt.ensures)
