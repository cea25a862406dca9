use Rattle.std.proofs.Common.{◌∙◌, arith}
use Rattle.columns.specs.Laws.{length-column}
use Rattle.matrix.specs.Laws.{cell-dot}
use Rattle.matrix.proofs.cell_dot.Goals as goal

pub row_dot-requires : goal.row_dot-requires
row_dot-requires c = let x = c.requires in rw (c.column.ensures, length-column) (x.0, x.2, omega arith)

pub returns : goal.returns
returns c = let x = c.args in c.row_dot.ensures ∙ rw c.column.ensures (cell-dot x.n x.p x.a.now x.b.now x.i x.j)
