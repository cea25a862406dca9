use Rattle.outputs.specs.Piecewise.{error_number}
use Rattle.outputs.proofs.error_number.Goals as goal

pub returns-in-NonFiniteCovariance : goal.returns-in-NonFiniteCovariance
unfolding error_number
returns-in-NonFiniteCovariance c = rw c.in-NonFiniteCovariance.is

pub returns-in-SingularCovariance : goal.returns-in-SingularCovariance
unfolding error_number
returns-in-SingularCovariance c = rw c.in-SingularCovariance.is

pub returns-in-Unbounded : goal.returns-in-Unbounded
unfolding error_number
returns-in-Unbounded c = rw c.in-Unbounded.is

pub returns-in-NotConverged : goal.returns-in-NotConverged
unfolding error_number
returns-in-NotConverged c = rw c.in-NotConverged.is
