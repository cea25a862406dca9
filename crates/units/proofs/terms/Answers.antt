use Rattle.folds.specs.Kit.{taken-tab}
use Rattle.units.specs.Units.{terms}
use Rattle.units.proofs.terms.Goals as goal

pub returns : goal.returns
unfolding terms
returns c = taken-tab _ _ _ c.write_terms.ensures
