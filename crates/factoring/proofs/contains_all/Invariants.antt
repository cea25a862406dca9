use Rattle.folds.specs.Kit.{◌≡◌, true, ◌≤◌, length, all}
use Rattle.folds.specs.Marks.{contains}
use Rattle.matrix.specs.Matrix.{index}
use Rattle.factoring.proofs.contains_all.Given as goal

abbrev pub invariant-loop-i : goal.invariant-loop-i
invariant-loop-i l = (l.i-index ≤ length l.s) × (true ≡ all l.i-index (λ u. contains l.indices (index l.s u)))
