use Rattle.folds.specs.Kit.{pick}
use Rattle.kkt_original.specs.Original.{original, restored}
use Rattle.kkt_original.specs.Laws.{original-refusal}
use Rattle.kkt_original.proofs.original.Goals as goal

pub returns-in-Err : goal.returns-in-Err
returns-in-Err c = rw c.in-Err.is (original-refusal _ _ _ _ _ _ _)

pub returns-then-not-checked : goal.returns-then-not-checked
unfolding original restored pick
returns-then-not-checked c = rw (c.in-Ok.is, ← c.div-x.ensures, ← c.checked.ensures, c.if-not-checked.true)

pub returns : goal.returns
unfolding original restored pick
returns c =
    rw (
      c.in-Ok.is,
      ← c.div-x.ensures,
      ← c.checked.ensures,
      c.if-not-checked.false,
      c.original_multipliers-multipliers.ensures,
    )
