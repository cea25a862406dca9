use Rattle.folds.specs.Kit.{◌≡◌, fold}
use Rattle.arith.specs.Float.{f0}
use Rattle.segments.specs.Segments.{segments_at}
use Rattle.starting.specs.Starting.{slopes_amax}
use Rattle.starting.proofs.slope_amax.Given as goal

abbrev pub invariant-loop-s : goal.invariant-loop-s
invariant-loop-s l = l.m ≡ fold l.s-index (λ k t. slopes_amax (segments_at l.fn.segments k) t) f0
