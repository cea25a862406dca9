use Rattle.folds.specs.Kit.{refl, ◌∙◌, pick}
use Rattle.folds.specs.Tab.{taken-over}
use Rattle.vector.specs.Laws.{length-div}
use Rattle.minimum.specs.Laws.{minimized_of-ok, minimized_of-err}
use Rattle.original_units.specs.Original.{restored}
use Rattle.original_units.proofs.restored.Goals as goal
use Rattle.original_units.proofs.restored.Goals.{Start, Then-feasible}

pub returns-then-feasible : goal.returns-then-feasible
unfolding restored pick
returns-then-feasible c =
    minimized_of-ok _ _ _
    ∙ rw (
      ← taken-over _ _ (length-div _ _ _) c.div.ensures,
      ← c.feasible.ensures,
      c.if-feasible.true,
      ← taken-over _ _ (length-div _ _ _) c.div-then-feasible.ensures,
    )

pub returns : goal.returns
unfolding restored pick
returns c =
    minimized_of-err _ _ _
    ∙ rw (
      ← taken-over _ _ (length-div _ _ _) c.div.ensures,
      ← c.feasible.ensures,
      c.if-feasible.false,
    )
