use Rattle.segments.specs.Freeing.{freed}
use Rattle.segments.proofs.freed.Goals as goal

pub returns-in-At : goal.returns-in-At
unfolding freed
returns-in-At c = rw (c.in-At.is, c.min.ensures, c.last.ensures)

pub returns-in-Free : goal.returns-in-Free
unfolding freed
returns-in-Free c = rw c.in-Free.is
