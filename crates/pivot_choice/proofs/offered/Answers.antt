use Rattle.folds.specs.Kit.{pick}
use Rattle.pivot_choice.specs.PivotChoice.{offered}
use Rattle.pivot_choice.proofs.offered.Goals as goal

pub returns-then-remaining-j : goal.returns-then-remaining-j
unfolding offered pick
returns-then-remaining-j c = rw (c.column_norm.ensures, c.if-remaining-j.true)

pub returns : goal.returns
unfolding offered pick
returns c = rw c.if-remaining-j.false
