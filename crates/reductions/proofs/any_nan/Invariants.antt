use Rattle.folds.specs.Kit.{◌≡◌, false}
use Rattle.reductions.specs.Reductions.{any_nan}
use Rattle.reductions.proofs.any_nan.Given as goal

abbrev pub invariant-loop-x : goal.invariant-loop-x
invariant-loop-x l = false ≡ any_nan l.x-index l.a
