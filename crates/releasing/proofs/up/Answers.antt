use Rattle.folds.specs.Kit.{pick}
use borrow.Author.Tests.{lt-ltb, le-ltb}
use Rattle.releasing.specs.Release.{up}
use Rattle.releasing.proofs.up.Goals as goal

pub returns-then-p-last : goal.returns-then-p-last
unfolding up pick
returns-then-p-last c =
    rw (← c.last.ensures, lt-ltb _ _ c.if-p-last.true, ← c.slope.ensures) c.counted.ensures

pub returns : goal.returns
unfolding up pick
returns c = rw (← c.last.ensures, le-ltb _ _ c.if-p-last.false)
