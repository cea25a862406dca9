use Rattle.folds.specs.Kit.{◌≡◌, ◌≤◌}
use Rattle.folds.specs.Best.{best_of}
use Rattle.pivot_choice.specs.PivotChoice.{offered, at_least}
use Rattle.pivot_choice.proofs.largest_column.Given as goal

abbrev pub invariant-loop-j : goal.invariant-loop-j
invariant-loop-j l = (l.j ≤ l.m) × (l.best ≡ best_of at_least l.j (offered l.n l.left l.remaining))
