use Rattle.folds.specs.Kit.{pick}
use Rattle.releasing.specs.Release.{counted}
use Rattle.releasing.proofs.counted.Goals as goal

pub returns-then-rate-least : goal.returns-then-rate-least
unfolding counted pick
returns-then-rate-least c = rw c.if-rate-least.true

pub returns : goal.returns
unfolding counted pick
returns c = rw c.if-rate-least.false
