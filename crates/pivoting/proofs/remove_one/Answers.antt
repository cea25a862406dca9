use Rattle.folds.specs.Kit.{fold, pick}
use Rattle.pivoting.specs.Pivoting.{remove_one}
use Rattle.pivoting.proofs.remove_one.Goals as goal

pub returns-then-remaining-l : goal.returns-then-remaining-l
unfolding remove_one pick fold
returns-then-remaining-l c =
    rw (c.remove_part-then-remaining-l.ensures, c.remove_part.ensures, c.if-remaining-l.true)

pub returns-else-remaining-l : goal.returns-else-remaining-l
unfolding remove_one pick
returns-else-remaining-l c = rw c.if-remaining-l.false
