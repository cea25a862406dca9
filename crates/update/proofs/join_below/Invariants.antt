use Rattle.folds.specs.Kit.{◌≡◌, ◌+◌, ◌≤◌, length, span}
use Rattle.update.specs.Update.{join_below}
use Rattle.update.proofs.join_below.Given as goal

abbrev pub invariant-loop-i : goal.invariant-loop-i
invariant-loop-i l = (l.p + 1 ≤ l.i) × (l.i ≤ l.n + 1) × (length l.x ≡ length l.initial.x) × (l.x ≡ span (l.p + 1) l.i (join_below l.n l.p l.l) l.initial.x)
