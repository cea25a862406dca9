use Rattle.folds.specs.Kit.{◌≡◌, false, length, fold, out}
use Rattle.arith.specs.Float.{at}
use Rattle.arith.specs.Scalar.{clamp}
use Rattle.matrix.specs.Matrix.{index}
use Rattle.stepping.specs.Stepping.{settle_one}
use Rattle.stepping.proofs.settle.Given as goal

abbrev pub invariant-loop-k : goal.invariant-loop-k
invariant-loop-k l = (length l.x ≡ length l.initial.x)
    × (out l.moved l.x ≡ fold l.k (λ t. settle_one (index l.fn.indices t) (clamp (at l.target t) (at l.lower t) (at l.upper t)) l.tolerance) (out false l.initial.x))
