use Rattle.folds.specs.Kit.{arith}
use Rattle.pivoting.specs.Pivoting.{remove_part}
use Rattle.columns.specs.Laws.{length-column}
use Rattle.pivoting.proofs.remove_part.Goals as goal

pub returns : goal.returns
unfolding remove_part
returns c =
    rw (c.sub_column.ensures, c.put.ensures, c.get.ensures, c.dot-t.ensures, c.column.ensures)

pub dot-t-requires : goal.dot-t-requires
dot-t-requires c = (omega arith, simp (c.column.ensures, length-column) (omega arith))
