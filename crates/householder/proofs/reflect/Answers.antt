use Rattle.householder.specs.Householder.{factor, reflect}
use Rattle.householder.proofs.reflect.Goals as goal

pub returns : goal.returns
unfolding factor reflect
returns c = rw (c.sub_scaled.ensures, c.dot.ensures, c.requires.1)
