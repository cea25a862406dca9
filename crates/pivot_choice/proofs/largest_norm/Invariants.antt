use Rattle.folds.specs.Kit.{◌≡◌, ◌≤◌, fold}
use Rattle.pivot_choice.specs.PivotChoice.{column_norm}
use Rattle.arith.specs.Float.{f0}
use Rattle.arith.specs.Scalar.{max as fmax}
use Rattle.pivot_choice.proofs.largest_norm.Given as goal

abbrev pub invariant-loop-j : goal.invariant-loop-j
invariant-loop-j l = (l.j ≤ l.m) × (l.s ≡ fold l.j (λ k x. fmax x (column_norm l.n l.e k)) f0)
