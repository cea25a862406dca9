use Rattle.folds.specs.Kit.{◌≡◌, true, ◌≤◌, length, set, fold, all}
use Rattle.arith.specs.Float.{at}
use Rattle.rounding.specs.Rounding.{time_of, in_range}
use Rattle.rounding.proofs.times_of.Given as goal

abbrev pub invariant-loop-i : goal.invariant-loop-i
invariant-loop-i l = (l.i ≤ length l.x)
    × (length l.times ≡ 32)
    × (l.times ≡ fold l.i (λ i' l'. set l' i' (time_of (at l.x i'))) l.initial.times)
    × (true ≡ all l.i (λ i'. in_range (at l.x i')))
