use Rattle.folds.specs.Kit.{refl}
use Rattle.variable_set.specs.Joining.{afresh}
use Rattle.variable_set.proofs.afresh.Goals as goal

pub returns : goal.returns
unfolding afresh
returns c = refl
