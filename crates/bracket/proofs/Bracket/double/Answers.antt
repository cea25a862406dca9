use Rattle.folds.specs.Kit.{refl}
use Rattle.bracket.specs.Bracket.{double}
use Rattle.bracket.proofs.Bracket.double.Goals as goal

pub returns : goal.returns
unfolding double
returns c = refl
