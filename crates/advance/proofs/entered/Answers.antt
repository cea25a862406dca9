use Rattle.folds.specs.Kit.{refl}
use Rattle.advance.specs.Advance.{entered}
use Rattle.advance.proofs.entered.Goals as goal

pub returns : goal.returns
unfolding entered
returns c = refl
