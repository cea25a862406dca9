use Rattle.folds.specs.Kit.{◌≡◌, ◌≤◌, length, fold}
use Rattle.matrix.specs.Matrix.{index}
use Rattle.variable_set.specs.Marked.{count_if_new}
use Rattle.variable_set.proofs.joining.Given as goal

abbrev pub invariant-loop-i : goal.invariant-loop-i
invariant-loop-i l = (l.i-index ≤ length l.indices) × (l.m ≤ l.i-index) × (l.m ≡ fold l.i-index (λ u. count_if_new l.held (index l.indices u)) 0)
