use Rattle.folds.specs.Kit.{◌≡◌, ◌-◌, ◌≤◌, length, fold}
use Rattle.folds.specs.Part.{two}
use Rattle.eigen.specs.Eigen.{sweep_row}
use Rattle.eigen.proofs.sweep.Given as goal

abbrev pub invariant-loop-p : goal.invariant-loop-p
invariant-loop-p l = (l.p ≤ l.n) × (length l.a ≡ length l.initial.a) × (length l.v ≡ length l.initial.v) × (two l.a l.v ≡ fold l.p (sweep_row l.n) (two l.initial.a l.initial.v))
