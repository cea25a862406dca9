use Rattle.folds.specs.Kit.{◌≡◌, false, ◌≤◌, length, some}
use lib.Ieee.{ne}
use Rattle.arith.specs.Float.{f0}
use Rattle.columns.specs.Columns.{cell}
use Rattle.matrix.specs.Matrix.{index}
use Rattle.slack_rows.proofs.any_entry.Given as goal

abbrev pub invariant-loop-i : goal.invariant-loop-i
invariant-loop-i l = (l.i-index ≤ length l.solved) × (false ≡ some l.i-index (λ k. ne (cell l.e l.n (index l.solved k) l.j) f0))
