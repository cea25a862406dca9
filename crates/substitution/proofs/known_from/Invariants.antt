use Rattle.folds.specs.Kit.{◌≡◌, ◌≤◌, span}
use Rattle.arith.specs.Float.{at, fadd, fmul, f0}
use Rattle.columns.specs.Columns.{cell}
use Rattle.matrix.specs.Matrix.{index}
use Rattle.substitution.proofs.known_from.Given as goal

abbrev pub invariant-loop-k : goal.invariant-loop-k
invariant-loop-k l = (l.first ≤ l.k) × (l.k ≤ l.rank) ×
    (l.known ≡ span l.first l.k (λ t s. fadd s (fmul (cell l.coefficients l.p l.i (index l.pivots t)) (at l.lambda (index l.pivots t)))) f0)
