use Rattle.folds.specs.Kit.{◌≡◌, true}
use Rattle.householder.specs.Householder.{zero_column}
use Rattle.householder.proofs.zero_column.Given as goal

abbrev pub invariant-loop-v : goal.invariant-loop-v
invariant-loop-v l = true ≡ zero_column l.v-index l.x
