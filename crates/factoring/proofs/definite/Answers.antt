use Rattle.factoring.specs.Kept.{passing, definite}
use Rattle.factoring.proofs.definite.Goals as goal

pub returns-then-cholesky : goal.returns-then-cholesky
unfolding definite passing
returns-then-cholesky c = rw (← c.cholesky.ensures, c.if-cholesky.true, c.positive_definite.ensures)

pub returns : goal.returns
unfolding definite passing
returns c = rw (← c.cholesky.ensures, c.if-cholesky.false)
