use Rattle.folds.specs.Kit.{◌≡◌, ◌+◌, ◌*◌, ◌≤◌, length, span}
use Rattle.folds.specs.Part.{on_part}
use Rattle.householder.specs.Householder.{reflect}
use Rattle.householder.proofs.reflect_columns.Given as goal

abbrev pub invariant-loop-j : goal.invariant-loop-j
invariant-loop-j l = (l.lo ≤ l.j) × (l.j ≤ l.m) × (length l.a ≡ length l.initial.a) × (l.a ≡ span l.lo l.j (λ t. on_part (l.k + t * l.n) (l.n + t * l.n) (reflect l.v)) l.initial.a)
