use Rattle.folds.specs.Kit.{◌≡◌, ◌-◌, ◌≤◌, arith, fold_call, kit}
use Rattle.row_test.specs.Limits.{row_terms}
use Rattle.row_test.proofs.row_terms.Given as goal

abbrev pub invariant-loop-i : goal.invariant-loop-i
invariant-loop-i l = (l.i ≤ l.n) × (l.s ≡ row_terms l.i l.a l.x)
