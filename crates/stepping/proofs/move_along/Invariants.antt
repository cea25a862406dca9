use Rattle.folds.specs.Kit.{◌≡◌, length, set, fold}
use Rattle.arith.specs.Float.{fadd, fmul, at}
use Rattle.arith.specs.Scalar.{clamp}
use Rattle.matrix.specs.Matrix.{index}
use Rattle.stepping.proofs.move_along.Given as goal

abbrev pub invariant-loop-k : goal.invariant-loop-k
invariant-loop-k l = (length l.x ≡ length l.initial.x)
    × (l.x ≡ fold l.k (λ t l'. set l' (index l.fn.indices t) (clamp (fadd (at l.x_free t) (fmul l.step (at l.direction t))) (at l.lower t) (at l.upper t))) l.initial.x)
