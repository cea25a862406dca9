use Rattle.folds.specs.Kit.{kit}
use Rattle.angle.specs.Angle.{turn_by}
use Rattle.angle.proofs.turn_by.Goals as goal

pub returns : goal.returns
unfolding turn_by
returns c = rw (← c.sqrt-c.ensures)
