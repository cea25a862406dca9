use Rattle.folds.specs.Kit.{◌≡◌, true, ◌≤◌, length, set, fold}
use Rattle.matrix.specs.Matrix.{index}
use Rattle.variable_set.proofs.marks.Given as goal

abbrev pub invariant-loop-i : goal.invariant-loop-i
invariant-loop-i l = (l.i-index ≤ length l.list) × (l.s ≡ fold l.i-index (λ u l'. set l' (index l.list u) true) l.initial.s)
