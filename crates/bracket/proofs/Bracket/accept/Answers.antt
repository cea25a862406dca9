use Rattle.folds.specs.Kit.{refl}
use Rattle.bracket.specs.Bracket.{accept}
use Rattle.bracket.proofs.Bracket.accept.Goals as goal

pub returns : goal.returns
unfolding accept
returns c = refl
