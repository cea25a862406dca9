use Rattle.release_at.specs.ReleaseAt.{scale}
use Rattle.release_at.proofs.scale.Goals as goal

pub returns : goal.returns
unfolding scale
returns c = rw (c.max.ensures, c.amax-2.ensures, c.amax.ensures)
