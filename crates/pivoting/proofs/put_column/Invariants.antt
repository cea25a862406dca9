use Rattle.folds.specs.Kit.{◌≡◌, length}
use Rattle.arith.specs.Float.{at}
use Rattle.columns.specs.Columns.{put_column}
use Rattle.pivoting.proofs.put_column.Given as goal

abbrev pub invariant-loop-i : goal.invariant-loop-i
invariant-loop-i l = (length l.a ≡ length l.initial.a) × (l.a ≡ put_column l.i l.n l.j (at l.fn.y) l.initial.a)
