use Rattle.folds.specs.Kit.{pick}
use borrow.Author.Tests.{lt-ltb, le-ltb}
use Rattle.releasing.specs.Release.{down}
use Rattle.releasing.proofs.down.Goals as goal

pub returns-then-p-gt0 : goal.returns-then-p-gt0
unfolding down pick
returns-then-p-gt0 c = rw (lt-ltb _ _ c.if-p-gt0.true, ← c.slope.ensures) c.counted.ensures

pub returns : goal.returns
unfolding down pick
returns c = rw (le-ltb _ _ c.if-p-gt0.false)
