use Rattle.segments.specs.Start.{fixed}
use Rattle.segments.proofs.Segments.fixed.Goals as goal

pub returns : goal.returns
unfolding fixed
returns c = rw (← c.point.ensures, ← c.last.ensures, ← c.point-2.ensures)
