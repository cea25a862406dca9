use Rattle.std.specs.Prelude.{◌≡◌, ◌-◌}
use Rattle.folds.specs.Fold.{fold}
use Rattle.triangular.specs.Triangular.{unknown_back}
use Rattle.triangular.proofs.backward.Given as goal

abbrev pub invariant-loop-i : goal.invariant-loop-i
invariant-loop-i l = l.x ≡ fold (l.n - l.i) (λ t. unknown_back l.l l.n (l.n - 1 - t)) l.initial.x
