use Rattle.releasing.specs.Release.{offered}
use Rattle.releasing.proofs.offered.Goals as goal

pub returns-then-refused : goal.returns-then-refused
unfolding offered
returns-then-refused c = rw c.if-refused.true

pub returns-in_err-rate : goal.returns-in_err-rate
unfolding offered
returns-in_err-rate c = rw (c.if-refused.false, c.in_err-rate.was) c.from_residual.ensures

pub returns : goal.returns
unfolding offered
returns c = rw (c.if-refused.false, c.in_ok-rate.was)
