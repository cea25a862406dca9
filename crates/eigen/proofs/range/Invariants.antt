use Rattle.folds.specs.Kit.{◌≡◌, ◌≤◌, length, over}
use lib.Ieee.{lt}
use Rattle.folds.specs.Chosen.{chosen}
use Rattle.arith.specs.Float.{at}
use Rattle.eigen.proofs.range.Given as goal

abbrev pub invariant-loop-k : goal.invariant-loop-k
invariant-loop-k l =
    (l.m ≤ l.k) × (length l.list ≡ length l.initial.list) × (l.m ≡ length (chosen l.k (λ t. lt l.cutoff (at l.fn.values t)))) ×
    (l.list ≡ over (chosen l.k (λ t. lt l.cutoff (at l.fn.values t))) l.initial.list)
