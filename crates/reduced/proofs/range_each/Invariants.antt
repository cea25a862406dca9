use Rattle.folds.specs.Kit.{◌≡◌, fold}
use Rattle.matrix.specs.Matrix.{index}
use Rattle.reduced.specs.Reduced.{range_one}
use Rattle.reduced.proofs.range_each.Given as goal

abbrev pub invariant-loop-j : goal.invariant-loop-j
invariant-loop-j l =
    l.v ≡ fold l.j-index (λ t. range_one l.d l.values l.vectors l.gradient (index l.range t)) l.initial.v
