use Rattle.folds.specs.Kit.{◌≡◌, ◌≤◌, fold}
use Rattle.arith.specs.Float.{fadd, f0}
use Rattle.columns.specs.Columns.{cell}
use Rattle.matrix.proofs.trace.Given as goal

abbrev pub invariant-loop-i : goal.invariant-loop-i
invariant-loop-i l = (l.i ≤ l.n) × (l.s ≡ fold l.i (λ t z. fadd z (cell l.a l.n t t)) f0)
