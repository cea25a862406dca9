use Rattle.folds.specs.Kit.{refl}
use Rattle.freeing.specs.Freeing.{none_free}
use Rattle.freeing.proofs.none_free.Goals as goal

pub returns : goal.returns
unfolding none_free
returns c = refl
