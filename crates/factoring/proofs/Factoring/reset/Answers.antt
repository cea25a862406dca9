use Rattle.folds.specs.Kit.{refl}
use Rattle.factoring.specs.Kept.{reset, option_of, kept_of}
use Rattle.factoring.proofs.Factoring.reset.Goals as goal

pub returns : goal.returns
unfolding reset option_of kept_of
returns c = refl
