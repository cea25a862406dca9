use Rattle.folds.specs.Kit.{rules, both}
use Rattle.row_test.specs.Limits.{within}
use Rattle.row_test.proofs.within.Goals as goal

pub returns-then-lower-terms : goal.returns-then-lower-terms
unfolding within both
returns-then-lower-terms c = rw (← c.abs.ensures, c.if-lower-terms.true, ← c.abs-then-lower-terms.ensures)

pub returns : goal.returns
unfolding within both
returns c = rw (← c.abs.ensures, c.if-lower-terms.false)
