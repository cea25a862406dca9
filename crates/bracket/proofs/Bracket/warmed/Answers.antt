use Rattle.folds.specs.Kit.{refl}
use Rattle.bracket.specs.Bracket.{warmed}
use Rattle.bracket.proofs.Bracket.warmed.Goals as goal

pub returns : goal.returns
unfolding warmed
returns c = refl
