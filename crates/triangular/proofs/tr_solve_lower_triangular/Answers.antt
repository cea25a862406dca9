use Rattle.folds.specs.Kit.{pick}
use Rattle.triangular.specs.Triangular.{tr_solve_lower}
use Rattle.triangular.proofs.tr_solve_lower_triangular.Goals as goal

pub returns-then-regular : goal.returns-then-regular
unfolding tr_solve_lower pick
returns-then-regular c = rw (← c.regular.ensures, c.if-regular.true, c.backward.ensures)

pub returns : goal.returns
unfolding tr_solve_lower pick
returns c = rw (← c.regular.ensures, c.if-regular.false)
