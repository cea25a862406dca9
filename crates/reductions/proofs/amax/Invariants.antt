use Rattle.folds.specs.Kit.{◌≡◌}
use Rattle.reductions.specs.Reductions.{amax}
use Rattle.reductions.proofs.amax.Given as goal

abbrev pub invariant-loop-x : goal.invariant-loop-x
invariant-loop-x l = l.largest ≡ amax l.x-index l.a
