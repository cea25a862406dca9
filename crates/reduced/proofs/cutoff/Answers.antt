use Rattle.reduced.specs.Reduced.{cutoff}
use Rattle.reduced.proofs.cutoff.Goals as goal

pub returns : goal.returns
unfolding cutoff
returns c = rw (c.nearest_usize_to_f64.ensures, c.max-largest.ensures, c.amax-2.ensures, c.amax.ensures)
