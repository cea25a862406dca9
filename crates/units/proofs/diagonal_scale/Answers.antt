use Rattle.units.specs.Units.{diagonal_scale}
use Rattle.units.proofs.diagonal_scale.Goals as goal

pub returns : goal.returns
unfolding diagonal_scale
returns c = rw (c.scale_or_1.ensures, c.sqrt.ensures, c.get.ensures)
