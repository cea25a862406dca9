use Rattle.folds.specs.Kit.{◌≡◌, true, ◌≤◌, length, walk, out}
use Rattle.triangular.specs.Triangular.{solve_column}
use Rattle.triangular.proofs.solve_lower_columns.Given as goal

abbrev pub invariant-loop-j : goal.invariant-loop-j
invariant-loop-j l = (l.j ≤ l.m) × (length l.x ≡ length l.initial.x) × (out true l.x ≡ walk l.j (solve_column l.l l.n) l.initial.x)
