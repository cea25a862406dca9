use Rattle.folds.specs.Kit.{◌≡◌, true, ◌-◌, ◌≤◌, rules, all, alls}
use lib.Ieee.{le}
use Rattle.arith.specs.Float.{fmul}
use Rattle.columns.specs.Columns.{cell}
use Rattle.folds.specs.Fold.{all_stop, all_turn}
use borrow.Author.Tests.{not-true, not-false}
use Rattle.cholesky.specs.Cholesky.{positive_definite, pivot_floor}
use Rattle.cholesky.proofs.positive_definite.Given as goal

abbrev pub invariant-loop-i : goal.invariant-loop-i
invariant-loop-i l = (l.i ≤ l.n) × (true ≡ all l.i (λ t. le pivot_floor (fmul (cell l.l l.n t t) (cell l.l l.n t t))))
