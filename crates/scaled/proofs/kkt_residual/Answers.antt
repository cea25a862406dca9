use Rattle.scaled.specs.Scaled.{kkt_residual}
use Rattle.scaled.proofs.kkt_residual.Goals as goal

pub returns : goal.returns
unfolding kkt_residual
returns c = rw (c.size-size.ensures, c.feasibility.ensures, c.stationarity.ensures)
