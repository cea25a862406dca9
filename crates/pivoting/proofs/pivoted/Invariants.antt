use Rattle.folds.specs.Kit.{◌≡◌, ◌≤◌, length, walk, out, true}
use Rattle.pivoting.specs.Pivoting.{state_of, pivot_step}
use Rattle.pivoting.proofs.pivoted.Given as goal

abbrev pub invariant-loop-row : goal.invariant-loop-row
invariant-loop-row l = (l.row ≤ l.p) × (length l.left ≡ length l.initial.left) × (length l.coefficients ≡ length l.initial.coefficients) × (length l.basis ≡ length l.initial.basis) ×
    (l.pivots.rank ≡ l.row) ×
    (out true (state_of l.m l.left l.coefficients l.basis l.pivots) ≡ walk l.row (pivot_step l.n l.m l.p l.tolerance) (state_of l.m l.initial.left l.initial.coefficients l.initial.basis l.initial.pivots))
