use Rattle.folds.specs.Kit.{arith}
use Rattle.vector.specs.Laws.{over-copy}
use Rattle.triangular.specs.Regular.{columns-done}
use Rattle.range_space.specs.Factored.{whitened}
use Rattle.range_space.proofs.whiten.Goals as goal

pub solve_lower_columns-requires : goal.solve_lower_columns-requires
unfolding whitened
solve_lower_columns-requires c = (omega arith, omega arith)

pub returns : goal.returns
unfolding whitened
returns c =
    rw (← over-copy _ c.args.e.now c.args.w.now c.requires.5, ← c.copy.ensures)
    (columns-done _ _ c.requires.3 _ _ c.solve_lower_columns.ensures)
