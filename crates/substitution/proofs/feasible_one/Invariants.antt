use Rattle.folds.specs.Kit.{◌≡◌, ◌≤◌}
use Rattle.arith.specs.Float.{at, fmul, sum}
use Rattle.columns.specs.Columns.{cell}
use Rattle.substitution.proofs.feasible_one.Given as goal

abbrev pub invariant-loop-k : goal.invariant-loop-k
invariant-loop-k l = (l.k ≤ l.i) × (l.known ≡ sum l.k (λ t. fmul (cell l.coefficients l.p t l.j) (at l.u t)))
