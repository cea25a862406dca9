use Rattle.freeing.specs.Freeing.{free_everything}
use Rattle.freeing.proofs.free_everything.Goals as goal

pub free_all-freed-requires : goal.free_all-freed-requires
unfolding free_everything
free_all-freed-requires c = c.requires

pub returns : goal.returns
unfolding free_everything
returns c = rw c.free_all-freed.ensures.value
