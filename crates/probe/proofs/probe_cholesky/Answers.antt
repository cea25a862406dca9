use Rattle.folds.specs.Kit.{pick}
use Rattle.folds.specs.Cell.{small-fits}
use Rattle.std.proofs.lemmas.Bool.{le-leb, lt-leb}
use Rattle.probe.specs.Probe.{cholesky}
use Rattle.probe.proofs.probe_cholesky.Goals as goal

pub returns-then-n-gt48 : goal.returns-then-n-gt48
unfolding cholesky pick
returns-then-n-gt48 c = rw (lt-leb _ _ c.if-n-gt48.true)

pub overflow_mul-n : goal.overflow_mul-n
unfolding cholesky pick
overflow_mul-n c = small-fits c.if-n-gt48.false c.if-n-gt48.false

pub returns-then-n-a : goal.returns-then-n-a
unfolding cholesky pick
returns-then-n-a c = rw (le-leb _ _ c.if-n-gt48.false, lt-leb _ _ c.if-n-a.true)

pub returns-then-cholesky : goal.returns-then-cholesky
unfolding cholesky pick
returns-then-cholesky c =
    rw (
      le-leb _ _ c.if-n-gt48.false,
      le-leb _ _ c.if-n-a.false,
    ) (rw c.if-cholesky.true at c.cholesky.ensures)

pub returns : goal.returns
unfolding cholesky pick
returns c =
    rw (
      le-leb _ _ c.if-n-gt48.false,
      le-leb _ _ c.if-n-a.false,
    ) (rw c.if-cholesky.false at c.cholesky.ensures)
