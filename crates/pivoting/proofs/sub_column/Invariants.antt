use Rattle.folds.specs.Kit.{◌≡◌, length}
use Rattle.arith.specs.Float.{at, fsub, fmul}
use Rattle.columns.specs.Columns.{put_column, cell}
use Rattle.pivoting.proofs.sub_column.Given as goal

abbrev pub invariant-loop-i : goal.invariant-loop-i
invariant-loop-i l = (length l.a ≡ length l.initial.a) × (l.a ≡ put_column l.i l.n l.l (λ k. fsub (cell l.initial.a l.n k l.l) (fmul (at l.fn.y k) l.t)) l.initial.a)
