use Rattle.folds.specs.Kit.{pick}
use Rattle.step_length.specs.StepLength.{end_reached}
use Rattle.step_length.proofs.end_reached.Goals as goal

pub returns-then-moves_down : goal.returns-then-moves_down
unfolding end_reached pick
returns-then-moves_down c = rw (← c.moves_down.ensures, c.if-moves_down.true)

pub returns-then-moves_up : goal.returns-then-moves_up
unfolding end_reached pick
returns-then-moves_up c = rw (← c.moves_down.ensures, c.if-moves_down.false, ← c.moves_up.ensures, c.if-moves_up.true)

pub returns : goal.returns
unfolding end_reached pick
returns c = rw (← c.moves_down.ensures, c.if-moves_down.false, ← c.moves_up.ensures, c.if-moves_up.false)
