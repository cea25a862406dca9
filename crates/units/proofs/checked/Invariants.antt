use Rattle.folds.specs.Kit.{◌≡◌, ◌≤◌, true}
use Rattle.units.specs.Units.{checked}
use Rattle.units.proofs.checked.Given as goal

abbrev pub invariant-loop-j : goal.invariant-loop-j
invariant-loop-j l = (l.j ≤ l.m) × (true ≡ checked l.n l.j l.x l.e l.b l.columns)
