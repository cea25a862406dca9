use Rattle.folds.specs.Kit.{refl}
use Rattle.bracket.specs.Bracket.{exceed}
use Rattle.bracket.proofs.Bracket.exceed.Goals as goal

pub returns : goal.returns
unfolding exceed
returns c = refl
