use Rattle.folds.specs.Kit.{◌≡◌, ◌-◌, ◌≤◌, length}
use Rattle.folds.specs.Part.{two}
use Rattle.eigen.specs.Eigen.{sweeps}
use Rattle.eigen.proofs.Passes.{Left}
use Rattle.eigen.proofs.sweeps.Given as goal

abbrev pub invariant-loop : goal.invariant-loop
invariant-loop l = (l.counter ≤ 100) × (length l.a ≡ length l.initial.a) × (length l.v ≡ length l.initial.v) × (Left l.n l.tolerance l.counter (two l.a l.v) ≡ sweeps l.n l.tolerance (two l.initial.a l.initial.v))
