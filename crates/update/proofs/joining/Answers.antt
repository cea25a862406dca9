use Rattle.update.specs.Update.{joining}
use Rattle.update.proofs.joining.Goals as goal

pub returns : goal.returns
unfolding joining
returns c = rw (c.join_below.ensures, c.join_diagonal.ensures, c.forward.ensures)
