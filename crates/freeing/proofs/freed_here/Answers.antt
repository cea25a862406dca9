use Rattle.folds.specs.Kit.{both}
use Rattle.freeing.specs.Freeing.{freed_here}
use Rattle.freeing.proofs.freed_here.Goals as goal

pub returns-then-freed : goal.returns-then-freed
unfolding freed_here both
returns-then-freed c = rw c.if-freed.true c.same_point.ensures

pub returns : goal.returns
unfolding freed_here both
returns c = rw c.if-freed.false
