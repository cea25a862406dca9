use Rattle.folds.specs.Kit.{refl}
use Rattle.eigen.proofs.Whole.{started}
use Rattle.eigen.proofs.start.Goals as goal

pub returns : goal.returns
returns c =
    started _ _ _ _ _ c.requires.0 c.requires.1 c.requires.2 refl c.requires.3 c.divide.ensures c.add_scalar.ensures c.identity.ensures
    c.symmetric.ensures
