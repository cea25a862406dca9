use Rattle.folds.specs.Kit.{pick}
use Rattle.segments.specs.Freeing.{free_one}
use Rattle.segments.proofs.free_one.Goals as goal

pub returns-then-fixed : goal.returns-then-fixed
unfolding free_one pick
returns-then-fixed c = rw c.if-fixed.true

pub returns : goal.returns
unfolding free_one pick
returns c = rw c.if-fixed.false c.freed.ensures
