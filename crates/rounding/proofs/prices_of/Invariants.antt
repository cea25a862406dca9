use Rattle.folds.specs.Kit.{◌≡◌, ◌≤◌, length, set, fold}
use Rattle.arith.specs.Float.{at}
use Rattle.rounding.specs.Rounding.{price_of}
use Rattle.rounding.proofs.prices_of.Given as goal

abbrev pub invariant-loop-k : goal.invariant-loop-k
invariant-loop-k l = (l.k ≤ length l.multipliers) × (length l.prices ≡ 25) × (l.prices ≡ fold l.k (λ k' l'. set l' k' (price_of (at l.multipliers k'))) l.initial.prices)
