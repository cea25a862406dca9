use Rattle.releasing.specs.Release.{held_descent}
use Rattle.releasing.proofs.held_descent.Goals as goal

pub returns : goal.returns
unfolding held_descent
returns c = rw (c.or.ensures, c.up.ensures, c.down.ensures)
