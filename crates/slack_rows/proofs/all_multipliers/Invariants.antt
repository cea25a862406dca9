use Rattle.folds.specs.Kit.{◌≡◌, ◌≤◌, length, set, fold}
use Rattle.sizes.specs.Sizes as Sizes
use Rattle.arith.specs.Float.{f0, at}
use Rattle.vector.specs.Vector.{filled}
use Rattle.matrix.specs.Matrix.{index}
use Rattle.slack_rows.proofs.all_multipliers.Given as goal

abbrev pub invariant-loop-k : goal.invariant-loop-k
invariant-loop-k l = (l.k ≤ length l.kept) × (l.all ≡ fold l.k (λ t l'. set l' (index l.kept t) (at l.multipliers t)) (filled Sizes.columns f0))
