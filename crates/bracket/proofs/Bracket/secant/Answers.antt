use Rattle.folds.specs.Kit.{refl}
use Rattle.bracket.specs.Bracket.{secant}
use Rattle.bracket.proofs.Bracket.secant.Goals as goal

pub returns : goal.returns
unfolding secant
returns c = refl
