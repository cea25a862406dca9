use Rattle.folds.specs.Kit.{pick}
use Rattle.triangular.specs.Triangular.{solve_lower}
use Rattle.triangular.proofs.solve_lower_triangular.Goals as goal

pub returns-then-regular : goal.returns-then-regular
unfolding solve_lower pick
returns-then-regular c = rw (← c.regular.ensures, c.if-regular.true, c.forward.ensures)

pub returns : goal.returns
unfolding solve_lower pick
returns c = rw (← c.regular.ensures, c.if-regular.false)
