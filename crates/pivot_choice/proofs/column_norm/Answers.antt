use Rattle.folds.specs.Kit.{arith}
use Rattle.columns.specs.Laws.{length-column}
use Rattle.pivot_choice.specs.PivotChoice.{column_norm}
use Rattle.pivot_choice.proofs.column_norm.Goals as goal

pub returns : goal.returns
unfolding column_norm
returns c = rw (c.norm.ensures, c.column.ensures)

pub norm-requires : goal.norm-requires
norm-requires c = simp (c.column.ensures, length-column) (omega arith)
