use Rattle.std.specs.Prelude.{◌≡◌, ◌-◌}
use Rattle.folds.specs.Fold.{fold}
use Rattle.leaving.specs.Held.{held, leave_one}
use Rattle.leaving.proofs.leaving.Given as goal

abbrev pub invariant-loop-i : goal.invariant-loop-i
invariant-loop-i l = held l.s l.l ≡ fold (l.originals - l.i) (λ u. leave_one l.originals l.wanted (l.originals - 1 - u)) (held l.initial.s l.initial.l)
