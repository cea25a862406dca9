use Rattle.folds.specs.Kit.{◌≡◌, true}
use Rattle.reductions.specs.Reductions.{all_finite}
use Rattle.reductions.proofs.all_finite.Given as goal

abbrev pub invariant-loop-x : goal.invariant-loop-x
invariant-loop-x l = true ≡ all_finite l.x-index l.a
