use Rattle.eigen.specs.Eigen.{mean}
use Rattle.eigen.proofs.mean.Goals as goal

pub returns : goal.returns
unfolding mean
returns c = rw (c.get.ensures, c.get-2.ensures)
