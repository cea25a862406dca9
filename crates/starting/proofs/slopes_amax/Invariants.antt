use Rattle.folds.specs.Kit.{◌≡◌, fold}
use Rattle.arith.specs.Scalar.{abs, max}
use Rattle.arith.specs.Float.{at}
use Rattle.starting.proofs.slopes_amax.Given as goal

abbrev pub invariant-loop-slope : goal.invariant-loop-slope
invariant-loop-slope l = l.m ≡ fold l.slope-index (λ k t. max t (abs (at l.fn.s.slopes k))) l.fn.from
