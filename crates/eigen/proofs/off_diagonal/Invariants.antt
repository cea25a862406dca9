use Rattle.folds.specs.Kit.{◌≡◌, ◌-◌, ◌≤◌, fold}
use Rattle.arith.specs.Float.{f0}
use Rattle.eigen.specs.Eigen.{off_row}
use Rattle.eigen.proofs.off_diagonal.Given as goal

abbrev pub invariant-loop-p : goal.invariant-loop-p
invariant-loop-p l = (l.p ≤ l.n) × (l.s ≡ fold l.p (off_row l.n l.a) f0)
