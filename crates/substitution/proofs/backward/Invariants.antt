use Rattle.folds.specs.Kit.{◌≡◌, ◌-◌, ◌≤◌, length, fold}
use Rattle.substitution.specs.Substitution.{backward_one}
use Rattle.substitution.proofs.backward.Given as goal

abbrev pub invariant-loop-t : goal.invariant-loop-t
invariant-loop-t l = (l.t ≤ l.rank) × (length l.lambda ≡ length l.initial.lambda) × (l.lambda ≡ fold l.t (λ k. backward_one l.p l.coefficients l.h l.pivots l.rank (l.rank - 1 - k)) l.initial.lambda)
