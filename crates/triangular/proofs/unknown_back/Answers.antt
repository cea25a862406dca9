use Rattle.triangular.specs.Triangular.{unknown_back}
use Rattle.triangular.proofs.unknown_back.Goals as goal

pub returns : goal.returns
unfolding unknown_back
returns c = rw (c.get.ensures, c.known_below-s.ensures)
