use Rattle.blocking.specs.Blocking.{end_point}
use Rattle.blocking.proofs.end_point.Goals as goal

pub returns-in-Lower : goal.returns-in-Lower
unfolding end_point
returns-in-Lower c = rw c.in-Lower.is

pub returns-in-Upper : goal.returns-in-Upper
unfolding end_point
returns-in-Upper c = rw c.in-Upper.is
