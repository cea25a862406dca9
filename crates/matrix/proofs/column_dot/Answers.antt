use Rattle.std.proofs.Common.{◌∙◌, arith}
use Rattle.columns.specs.Laws.{length-column}
use Rattle.matrix.specs.Laws.{column-dot}
use Rattle.matrix.proofs.column_dot.Goals as goal

pub dot-requires : goal.dot-requires
dot-requires c = rw (c.column.ensures, length-column) (omega arith, omega arith)

pub returns : goal.returns
returns c = c.dot.ensures ∙ rw c.column.ensures (column-dot c.args.n c.args.a.now c.args.x.now c.args.j)
