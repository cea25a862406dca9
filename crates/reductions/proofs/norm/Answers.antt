use Rattle.reductions.specs.Reductions.{norm}
use Rattle.reductions.proofs.norm.Goals as goal

pub returns : goal.returns
unfolding norm
returns c = rw (c.sqrt.ensures, c.sum_squares.ensures)
