use Rattle.folds.specs.Kit.{◌≡◌, ◌≤◌}
use Rattle.folds.specs.Best.{best_of}
use Rattle.arith.specs.Float.{at}
use Rattle.step_length.specs.StepLength.{shorter, end_reached}
use Rattle.step_length.proofs.ratio_test.Given as goal

abbrev pub invariant-loop-k : goal.invariant-loop-k
invariant-loop-k l = (l.k ≤ l.n) × (l.best ≡ best_of shorter l.k (λ i. end_reached (at l.x i) (at l.d i) (at l.lower i) (at l.upper i) l.tolerance i))
