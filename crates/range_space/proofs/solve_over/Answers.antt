use Rattle.range_space.specs.Factored.{refined}
use Rattle.range_space.proofs.solve_over.Goals as goal

pub returns : goal.returns
unfolding refined
returns c = rw (← c.solve.ensures, ← c.refine.ensures) c.judged.ensures
