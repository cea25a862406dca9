use Rattle.folds.specs.Kit.{◌≡◌, fold}
use Rattle.matrix.specs.Matrix.{index}
use Rattle.null_part.specs.NullPart.{null_one}
use Rattle.null_part.proofs.null_each.Given as goal

abbrev pub invariant-loop-j : goal.invariant-loop-j
invariant-loop-j l =
    l.direction ≡ fold l.j-index (λ t. null_one l.n l.d l.z l.vectors l.c (index l.null t)) l.initial.direction
