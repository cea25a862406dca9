use Rattle.folds.specs.Kit.{◌≡◌, ◌-◌, ◌≤◌, arith, fold_call, kit}
use Rattle.cholesky.specs.Cholesky.{rows_dot}
use Rattle.cholesky.proofs.rows_dot.Given as goal

abbrev pub invariant-loop-t : goal.invariant-loop-t
invariant-loop-t l = (l.t ≤ l.j) × (l.s ≡ rows_dot l.t l.a l.n l.i l.j)
