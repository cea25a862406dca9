use Rattle.triangular.specs.Triangular.{solve}
use Rattle.triangular.proofs.solve.Goals as goal

pub returns : goal.returns
unfolding solve
returns c = rw (c.backward.ensures, c.forward.ensures)
