use Rattle.folds.specs.Kit.{refl}
use Rattle.bracket.specs.Bracket.{new}
use Rattle.bracket.proofs.Bracket.new.Goals as goal

pub returns : goal.returns
unfolding new
returns c = refl
