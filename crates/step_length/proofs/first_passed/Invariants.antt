use Rattle.folds.specs.Kit.{◌≡◌, ◌≤◌}
use Rattle.folds.specs.Best.{best_of}
use Rattle.arith.specs.Float.{at}
use Rattle.step_length.specs.StepLength.{shorter, end_passed}
use Rattle.step_length.proofs.first_passed.Given as goal

abbrev pub invariant-loop-k : goal.invariant-loop-k
invariant-loop-k l = (l.k ≤ l.n) × (l.best ≡ best_of shorter l.k (λ i. end_passed (at l.x i) (at l.target i) (at l.lower i) (at l.upper i) l.tolerance i))
