use Rattle.folds.specs.Kit.{◌≡◌, ◌≤◌, length, set, fold}
use Rattle.matrix.specs.Matrix.{index}
use Rattle.substitution.specs.Substitution.{feasible_one}
use Rattle.substitution.proofs.forward.Given as goal

abbrev pub invariant-loop-i : goal.invariant-loop-i
invariant-loop-i l = (l.i ≤ l.rank) × (length l.u ≡ length l.initial.u) × (l.u ≡ fold l.i (λ k x. set x k (feasible_one l.p l.coefficients l.b (index l.pivots k) k x)) l.initial.u)
