use Rattle.update.specs.Update.{join_diagonal}
use Rattle.update.proofs.join_diagonal.Goals as goal

pub returns : goal.returns
unfolding join_diagonal
returns c = rw (c.sqrt.ensures, c.sum_squares-w.ensures)
