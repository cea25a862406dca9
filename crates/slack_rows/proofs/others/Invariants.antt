use Rattle.folds.specs.Kit.{◌≡◌, length}
use Rattle.arith.specs.Float.{fmul, at, sum}
use Rattle.columns.specs.Columns.{cell}
use Rattle.matrix.specs.Matrix.{index}
use Rattle.slack_rows.proofs.others.Given as goal

abbrev pub invariant-loop-i : goal.invariant-loop-i
invariant-loop-i l = l.sum ≡ sum (length l.yielded) (λ k. fmul (cell l.e l.n (index l.solved k) l.j) (at l.step k))
