use Rattle.folds.specs.Marks.{place}
use Rattle.variable_set.proofs.place.Goals as goal

pub returns : goal.returns
unfolding place
returns c = c.rising.ensures.value
