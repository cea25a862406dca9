use Rattle.folds.specs.Tab.{taken-over}
use Rattle.vector.specs.Laws.{length-div}
use Rattle.kkt_original.proofs.original_multipliers.Goals as goal

pub returns : goal.returns
returns c = taken-over _ _ (length-div _ _ _) c.div.ensures
