use Rattle.folds.specs.Kit.{◌≡◌, ◌≤◌, length}
use Rattle.triangular.specs.Triangular.{forward}
use Rattle.triangular.proofs.forward.Given as goal

abbrev pub invariant-loop-i : goal.invariant-loop-i
invariant-loop-i l = (l.i ≤ l.k) × (length l.x ≡ length l.initial.x) × (l.x ≡ forward l.i l.l l.n l.initial.x)
