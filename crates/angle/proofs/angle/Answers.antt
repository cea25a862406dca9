use Rattle.folds.specs.Kit.{kit}
use Rattle.angle.specs.Angle.{angle}
use Rattle.angle.proofs.angle.Goals as goal

pub returns : goal.returns
unfolding angle
returns c = rw (c.turn_by.ensures, c.tangent.ensures, c.get-3.ensures, c.get-2.ensures, c.get.ensures)
