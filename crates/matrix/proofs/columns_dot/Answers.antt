use Rattle.std.proofs.Common.{◌∙◌, arith}
use Rattle.columns.specs.Laws.{length-column}
use Rattle.matrix.specs.Laws.{columns-dot}
use Rattle.matrix.proofs.columns_dot.Goals as goal

pub dot-requires : goal.dot-requires
dot-requires c = rw (c.column.ensures, c.column-2.ensures, length-column, length-column) (omega arith, omega arith)

pub returns : goal.returns
returns c =
    let x = c.args in c.dot.ensures ∙ rw (c.column.ensures, c.column-2.ensures) (columns-dot x.n x.a.now x.b.now x.i x.j)
