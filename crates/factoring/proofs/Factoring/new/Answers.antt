use Rattle.folds.specs.Kit.{refl}
use Rattle.factoring.specs.Kept.{new, option_of, kept_of}
use Rattle.factoring.proofs.Factoring.new.Goals as goal

pub returns : goal.returns
unfolding new option_of kept_of
returns c = refl
