use Rattle.folds.specs.Kit.{pick}
use borrow.Author.Tests.{eq-eqb, ne_eqb}
use Rattle.matrix.specs.Matrix.{unit}
use Rattle.matrix.proofs.unit.Goals as goal

pub returns-then-i-j : goal.returns-then-i-j
unfolding unit pick
returns-then-i-j c = rw (eq-eqb _ _ c.if-i-j.true)

pub returns : goal.returns
unfolding unit pick
returns c = rw (ne_eqb _ _ c.if-i-j.false)
